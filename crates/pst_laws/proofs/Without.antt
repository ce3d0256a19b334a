-- The store of one identifier among those without that of another one.
use Rattle.std.proofs.Common.{◌≡◌, ℕ, Bool, true, false, List, [], ◌∷◌, Option, Some, None, refl, sym, ◌∙◌, ap}
use Rattle.std.proofs.lemmas.Bool.{cond-false, cond-true, eqb-true}
use Rattle.std.specs.Prelude.{◌==◌, find, not, if◌then◌else◌}
use Rattle.pst_model.specs.Changes.{is_named}
use Rattle.pst_model.specs.Stores.{without_store}
use Rattle.pst_model.specs.Table.{Store}

pub without_own : (identifier : ℕ) (stores : List Store) → find (is_named identifier) (without_store identifier stores) ≡ None
without_own identifier [] = refl
without_own identifier (store ∷ stores) = by (is_named identifier store) refl (without_own identifier stores)
  where
    by : (named : Bool) → is_named identifier store ≡ named → find (is_named identifier) (without_store identifier stores) ≡ None → find (is_named identifier) (without_store identifier (store ∷ stores)) ≡ None
    by true named rest = ap (find (is_named identifier)) (cond-false (not (is_named identifier store)) (store ∷ without_store identifier stores) (without_store identifier stores) (ap not named)) ∙ rest
    by false named rest =
        ap (find (is_named identifier)) (cond-true (not (is_named identifier store)) (store ∷ without_store identifier stores) (without_store identifier stores) (ap not named))
        ∙ cond-false (is_named identifier store) (Some store) (find (is_named identifier) (without_store identifier stores)) named ∙ rest

pub without_other : (identifier other : ℕ) → (other == identifier) ≡ false → (stores : List Store) → find (is_named identifier) (without_store other stores) ≡ find (is_named identifier) stores
without_other identifier other apart [] = refl
without_other identifier other apart (store ∷ stores) = by (is_named other store) refl (without_other identifier other apart stores)
  where
    by : (named : Bool) → is_named other store ≡ named → find (is_named identifier) (without_store other stores) ≡ find (is_named identifier) stores
        → find (is_named identifier) (without_store other (store ∷ stores)) ≡ find (is_named identifier) (store ∷ stores)
    by true named rest =
        let fails : is_named identifier store ≡ false = ap (λ (n : ℕ). n == identifier) (eqb-true store.identifier other named) ∙ apart in
        ap (find (is_named identifier)) (cond-false (not (is_named other store)) (store ∷ without_store other stores) (without_store other stores) (ap not named))
        ∙ rest ∙ sym (cond-false (is_named identifier store) (Some store) (find (is_named identifier) stores) fails)
    by false named rest =
        ap (find (is_named identifier)) (cond-true (not (is_named other store)) (store ∷ without_store other stores) (without_store other stores) (ap not named))
        ∙ ap (λ (found : Option Store). if is_named identifier store then Some store else found) rest
