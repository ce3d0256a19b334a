use Rattle.std.proofs.Common.{◌≡◌, ◌*◌, ◌<◌, ℕ, [], All, drop, get_or, length, take}
use Rattle.board.specs.Flash.{IsPage}
use Rattle.board.proofs.cache.pages_of.Given as goal

abbrev pub invariant-loop-page : goal.invariant-loop-page
invariant-loop-page l = record {
  count : length l.pages.items ≡ l.page;
  pages : (p : ℕ) → p < l.page → get_or l.pages.items p [] ≡ take 256 (drop (256 * p) l.image);
  fit : All IsPage l.pages.items;
}
