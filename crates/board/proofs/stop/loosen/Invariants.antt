use Rattle.std.proofs.Common.{◌≡◌, ◌<◌, ◌≤◌, ℕ, true, false, get_or, length}
use Rattle.board.proofs.stop.loosen.Given as goal

abbrev pub invariant-loop-page : goal.invariant-loop-page
invariant-loop-page l = record {
  count : length l.loose.items ≡ length l.fn.loose.items;
  marked : (p : ℕ) → l.fn.first ≤ p → p < l.page → get_or l.loose.items p false ≡ true;
  below : (p : ℕ) → p < l.fn.first → get_or l.loose.items p false ≡ get_or l.fn.loose.items p false;
  above : (p : ℕ) → l.page ≤ p → get_or l.loose.items p false ≡ get_or l.fn.loose.items p false;
}
