-- The first store that passes, by those behind the ones that were looked at.
use Rattle.std.proofs.Common.{◌≡◌, ◌≤◌, ◌<◌, ℕ, zero, suc, ◌+◌, Bool, true, false, List, [], ◌∷◌, Some, None, length, drop, sym, ◌∙◌, ap, arith}
use Rattle.std.proofs.lemmas.Bool.{cond-false, cond-true}
use Rattle.std.proofs.lemmas.List.{drop_all}
use Rattle.std.specs.Prelude.{IfSome, slice_get, if◌then◌else◌}
use Rattle.store_directory.specs.Directory.{Listed}
use Rattle.store_directory.specs.declared.row.Row.{Row}
use Rattle.retrieval.specs.declared.pick.Pick.{Pick}
use Rattle.retrieval.specs.Picks.{first_pick}

-- what is looked for is among the stores from a place on
abbrev pub IsFrom : (Row → Bool) → ((at : ℕ) → Row → Pick) → List Listed → ℕ → Type 0
IsFrom test pick stores at = first_pick test pick 0 stores ≡ first_pick test pick at (drop at stores)

module _ (test : Row → Bool) (pick : (at : ℕ) → Row → Pick) where
  looked : (stores : List Listed) (k at : ℕ) (row : Row) → k < length stores → IfSome (slice_get stores k) (λ s. row ≡ s.row)
      → first_pick test pick at (drop k stores) ≡ (if test row then Some (pick at row) else first_pick test pick (at + 1) (drop (suc k) stores))
  looked [] k at row lt is = absurd (omega (arith, lt))
  looked (store ∷ stores) zero at row lt is = ap (λ (r : Row). if test r then Some (pick at r) else first_pick test pick (at + 1) stores) (sym is)
  looked (store ∷ stores) (suc k) at row lt is = looked stores k at row (omega (arith, lt)) is

  module _ (stores : List Listed) (at : ℕ) (from : IsFrom test pick stores at) where
    pub passes : (row : Row) → at < length stores → IfSome (slice_get stores at) (λ s. row ≡ s.row) → test row ≡ true → Some (pick at row) ≡ first_pick test pick 0 stores
    passes row lt is here = sym (from ∙ looked stores at at row lt is ∙ cond-true (test row) _ _ here)

    pub fails : (row : Row) → at < length stores → IfSome (slice_get stores at) (λ s. row ≡ s.row) → test row ≡ false → IsFrom test pick stores (at + 1)
    fails row lt is here =
        let next : suc at ≡ at + 1 = omega arith in
        from ∙ looked stores at at row lt is ∙ cond-false (test row) _ _ here ∙ ap (λ (k : ℕ). first_pick test pick (at + 1) (drop k stores)) next

    pub none : length stores ≤ at → None ≡ first_pick test pick 0 stores
    none all = sym (from ∙ ap (first_pick test pick at) (drop_all at stores all))
