-- No last block gets stale while a packet is offered, and none of a store that takes it is.
use Rattle.std.proofs.Common.{◌≡◌, ◌⊎◌, inl, inr, ℕ, zero, suc, ◌+◌, false, List, [], ◌∷◌, slice_set, Some, sym, ◌∙◌, ap, subst, arith}
use Rattle.std.specs.Prelude.{slice_get}
use Rattle.std.proofs.lemmas.Bool.{cases_lt, false≢true}
use Rattle.std.proofs.lemmas.Option.{none-some, same_Some}
use Rattle.pst_model.specs.Table.{Store}
use Rattle.store_directory.specs.Directory.{Listed}
use Rattle.store_policy.specs.Shown.{IsStoreShown}
use Rattle.time_index.specs.TimeIndex.{TimeIndex}
use Rattle.vault.specs.Memory.{InMemory}
use Rattle.vault.specs.Storing.{IsFreshened, takes}
use Rattle.vault.specs.declared.last_block.LastBlock.{LastBlock}

-- what stands at a place of a list with another element
get_set : {X : Type 0} (xs : List X) (at place : ℕ) (x y : X) → slice_get (slice_set xs at x) place ≡ Some y
    → (y ≡ x) ⊎ ((place ≡ at → ⊥) × (slice_get xs place ≡ Some y))
get_set [] at place x y is = absurd (none-some y is)
get_set (z ∷ xs) zero zero x y is = inl (sym (same_Some x y is))
get_set (z ∷ xs) zero (suc place) x y is = inr ((λ same. omega arith), is)
get_set (z ∷ xs) (suc at) zero x y is = inr ((λ same. omega arith), is)
get_set (z ∷ xs) (suc at) (suc place) x y is = elim (get_set xs at place x y is) [
  | inl same ↦ inl same
  | inr other ↦ inr ((λ same. other.0 (omega arith)), other.1)
]

-- the store at the place does not take the packet
pub fresh_kept : (packet : List ℕ) (at : ℕ) (old : InMemory) (lasts : List LastBlock) (s : Listed) (index : TimeIndex) → IsFreshened packet at old lasts
    → slice_get old.directory.stores at ≡ Some s → slice_get old.indexes at ≡ Some index
    → ((store : Store) → IsStoreShown store s index → takes packet store ≡ false) → IsFreshened packet (at + 1) old lasts
fresh_kept packet at old lasts s index fresh there has not_taken = record {
  stale = fresh.stale;
  taken = λ place t i store last within listed indexed shown takes_it known. elim (cases_lt place at) [
    | inl lt ↦ fresh.taken place t i store last lt listed indexed shown takes_it known
    | inr ge ↦
        let here : place ≡ at = omega arith in
        let t_is : t ≡ s = same_Some t s (sym listed ∙ ap (slice_get old.directory.stores) here ∙ there) in
        let i_is : i ≡ index = same_Some i index (sym indexed ∙ ap (slice_get old.indexes) here ∙ has) in
        absurd (false≢true
        (sym (not_taken store (subst (λ (l : Listed). IsStoreShown store l index) t_is (subst (IsStoreShown store t) i_is shown))) ∙ takes_it))
  ];
}

-- it takes the packet
pub fresh_set : (packet : List ℕ) (at : ℕ) (old : InMemory) (lasts : List LastBlock) (used : ℕ) → IsFreshened packet at old lasts
    → IsFreshened packet (at + 1) old (slice_set lasts at (record { used = used; stale = false }))
fresh_set packet at old lasts used fresh =
    let new : LastBlock = record { used = used; stale = false } in
    record {
      stale = λ place was last there known is. elim (get_set lasts at place new last known) [
        | inl same ↦ absurd (false≢true (sym (ap (λ (l : LastBlock). l.stale) same) ∙ is))
        | inr other ↦ fresh.stale place was last there other.1 is
      ];
      taken = λ place t i store last within listed indexed shown takes_it known. elim (get_set lasts at place new last known) [
        | inl same ↦ ap (λ (l : LastBlock). l.stale) same
        | inr other ↦ elim (cases_lt place at) [
          | inl lt ↦ fresh.taken place t i store last lt listed indexed shown takes_it other.1
          | inr ge ↦ absurd (other.0 (omega arith))
        ]
      ];
    }
