use Rattle.std.proofs.Common.{◌≡◌, ◌<◌, ◌≤◌, ℕ, [], true, false, get_or, length}
use Rattle.board.proofs.stop.settle.Given as goal

abbrev pub invariant-loop-page : goal.invariant-loop-page
invariant-loop-page l = record {
  count : length l.loose.items ≡ length l.fn.loose.items;
  count_firm : length l.firm.items ≡ length l.fn.firm.items;
  loose : (p : ℕ) → p < l.page → get_or l.loose.items p false ≡ false;
  kept : (p : ℕ) → p < l.page → get_or l.fn.loose.items p false ≡ false → get_or l.firm.items p [] ≡ get_or l.fn.firm.items p [];
  settled : (p : ℕ) → p < l.page → get_or l.fn.loose.items p false ≡ true → get_or l.firm.items p [] ≡ get_or l.now.items p [];
  ahead : (p : ℕ) → l.page ≤ p → get_or l.loose.items p false ≡ get_or l.fn.loose.items p false;
  ahead_firm : (p : ℕ) → l.page ≤ p → get_or l.firm.items p [] ≡ get_or l.fn.firm.items p [];
}
