use Rattle.std.proofs.Common.{◌≡◌, ◌<◌, ◌≤◌, ℕ, [], get_or, length}
use Rattle.board.specs.Flash.{blank}
use Rattle.board.proofs.cache.wipe.Given as goal

abbrev pub invariant-loop-page : goal.invariant-loop-page
invariant-loop-page l = record {
  count : length l.pages.items ≡ length l.fn.pages.items;
  wiped : (p : ℕ) → l.fn.first ≤ p → p < l.page → get_or l.pages.items p [] ≡ blank;
  below : (p : ℕ) → p < l.fn.first → get_or l.pages.items p [] ≡ get_or l.fn.pages.items p [];
  above : (p : ℕ) → l.page ≤ p → get_or l.pages.items p [] ≡ get_or l.fn.pages.items p [];
}
