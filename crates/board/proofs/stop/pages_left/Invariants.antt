use Rattle.std.proofs.Common.{◌≡◌, ◌<◌, ℕ, List, [], All, get_or, length}
use Rattle.board.specs.Flash.{Flash, IsPage}
use Rattle.board.specs.Stopped.{Shows, stopped}
use Rattle.board.proofs.stop.pages_left.Given as goal

abbrev pub invariant-loop-page : goal.invariant-loop-page
invariant-loop-page l = record {
  count : length l.pages.items ≡ l.page;
  fit : All IsPage l.pages.items;
  left : (p : ℕ) → p < l.page → (flash : Flash) (firm : ℕ → List ℕ) → Shows flash firm l.walk p → get_or l.pages.items p [] ≡ stopped l.torn flash firm p;
}
