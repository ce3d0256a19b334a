-- The store of an identifier behind a change of the first store that passes a test.
use Rattle.std.proofs.Common.{◌≡◌, ℕ, Bool, true, false, List, [], ◌∷◌, Option, Some, refl, sym, ◌∙◌, ap, subst}
use Rattle.std.proofs.lemmas.Bool.{cond-false, cond-true, eqb-true}
use Rattle.std.specs.Prelude.{◌==◌, ◌&&◌, not, find, if◌then◌else◌}
use Rattle.pst_model.specs.Changes.{is_named, with_store}
use Rattle.pst_model.specs.Rules.{at_first}
use Rattle.pst_model.specs.Table.{Store}
use Rattle.pst_model.proofs.Shapes.{found_passes}
use Rattle.pst_laws.specs.Moves.{is_first}

-- The store of an identifier is the first one that passes a test, and what it is behind the change.
pub record IsHit (test : Store → Bool) (change : Store → Store) (identifier : ℕ) (stores : List Store) : Type 0 where
  pub store : Store
  pub first : find test stores ≡ Some store
  pub found : find (is_named identifier) stores ≡ Some store
  pub behind : find (is_named identifier) (at_first test change stores) ≡ Some (change store)

module _ (test : Store → Bool) (change : Store → Store) (same : (store : Store) → test store ≡ true → (change store).identifier ≡ store.identifier) (identifier : ℕ) where
  pub hit : (stores : List Store) → is_first test identifier stores ≡ true → IsHit test change identifier stores
  hit [] is = absurd cc
  hit (store ∷ stores) is = by (test store) refl (is_named identifier store) refl (hit stores)
    where
      by : (passes : Bool) → test store ≡ passes → (named : Bool) → is_named identifier store ≡ named → (is_first test identifier stores ≡ true → IsHit test change identifier stores) → IsHit test change identifier (store ∷ stores)
      by true passes true named behind =
          let kept : is_named identifier (change store) ≡ true = ap (λ (n : ℕ). n == identifier) (same store passes) ∙ named in
          record {
            store = store;
            first = cond-true (test store) (Some store) (find test stores) passes;
            found = cond-true (is_named identifier store) (Some store) (find (is_named identifier) stores) named;
            behind = ap (find (is_named identifier)) (cond-true (test store) (change store ∷ stores) (store ∷ at_first test change stores) passes)
                ∙ cond-true (is_named identifier (change store)) (Some (change store)) (find (is_named identifier) stores) kept;
          }
      by true passes false named behind =
          let no = sym named ∙ sym (cond-true (test store) (is_named identifier store) (not (is_named identifier store) && is_first test identifier stores) passes) ∙ is in absurd cc
      by false fails true named behind =
          let no = sym (cond-false (test store) (is_named identifier store) (not (is_named identifier store) && is_first test identifier stores) fails) ∙ is in
          let never : (not true && is_first test identifier stores) ≡ true = subst (λ b. (not b && is_first test identifier stores) ≡ true) named no in absurd cc
      by false fails false named behind =
          let rest = sym (cond-false (test store) (is_named identifier store) (not (is_named identifier store) && is_first test identifier stores) fails) ∙ is in
          let other : IsHit test change identifier stores = behind (subst (λ b. (not b && is_first test identifier stores) ≡ true) named rest) in
          record {
            store = other.store;
            first = cond-false (test store) (Some store) (find test stores) fails ∙ other.first;
            found = cond-false (is_named identifier store) (Some store) (find (is_named identifier) stores) named ∙ other.found;
            behind = ap (find (is_named identifier)) (cond-false (test store) (change store ∷ stores) (store ∷ at_first test change stores) fails)
                ∙ cond-false (is_named identifier store) (Some store) (find (is_named identifier) (at_first test change stores)) named ∙ other.behind;
          }

  pub missed : (stores : List Store) → is_first test identifier stores ≡ false → find (is_named identifier) (at_first test change stores) ≡ find (is_named identifier) stores
  missed [] is = refl
  missed (store ∷ stores) is = by (test store) refl (is_named identifier store) refl (missed stores)
    where
      by : (passes : Bool) → test store ≡ passes → (named : Bool) → is_named identifier store ≡ named
          → (is_first test identifier stores ≡ false → find (is_named identifier) (at_first test change stores) ≡ find (is_named identifier) stores)
          → find (is_named identifier) (at_first test change (store ∷ stores)) ≡ find (is_named identifier) (store ∷ stores)
      by true passes true named behind =
          let no = sym named ∙ sym (cond-true (test store) (is_named identifier store) (not (is_named identifier store) && is_first test identifier stores) passes) ∙ is in absurd cc
      by true passes false named behind =
          let kept : is_named identifier (change store) ≡ false = ap (λ (n : ℕ). n == identifier) (same store passes) ∙ named in
          ap (find (is_named identifier)) (cond-true (test store) (change store ∷ stores) (store ∷ at_first test change stores) passes)
          ∙ cond-false (is_named identifier (change store)) (Some (change store)) (find (is_named identifier) stores) kept
          ∙ sym (cond-false (is_named identifier store) (Some store) (find (is_named identifier) stores) named)
      by false fails true named behind =
          ap (find (is_named identifier)) (cond-false (test store) (change store ∷ stores) (store ∷ at_first test change stores) fails)
          ∙ cond-true (is_named identifier store) (Some store) (find (is_named identifier) (at_first test change stores)) named
          ∙ sym (cond-true (is_named identifier store) (Some store) (find (is_named identifier) stores) named)
      by false fails false named behind =
          let rest = sym (cond-false (test store) (is_named identifier store) (not (is_named identifier store) && is_first test identifier stores) fails) ∙ is in
          let others = behind (subst (λ b. (not b && is_first test identifier stores) ≡ false) named rest) in
          ap (find (is_named identifier)) (cond-false (test store) (change store ∷ stores) (store ∷ at_first test change stores) fails)
          ∙ ap (λ (found : Option Store). if is_named identifier store then Some store else found) others

-- the first store of an identifier is the one of that identifier, and of no other one
first_own : (identifier : ℕ) (stores : List Store) (store : Store) → find (is_named identifier) stores ≡ Some store → is_first (is_named identifier) identifier stores ≡ true
first_own identifier [] store is = absurd cc
first_own identifier (other ∷ stores) store is = by (is_named identifier other) refl (first_own identifier stores store)
  where
    by : (named : Bool) → is_named identifier other ≡ named → (find (is_named identifier) stores ≡ Some store → is_first (is_named identifier) identifier stores ≡ true) → is_first (is_named identifier) identifier (other ∷ stores) ≡ true
    by true named behind = cond-true (is_named identifier other) _ _ named ∙ named
    by false named behind =
        let rest = sym (cond-false (is_named identifier other) (Some other) (find (is_named identifier) stores) named) ∙ is in
        cond-false (is_named identifier other) _ _ named ∙ ap (λ b. not b && is_first (is_named identifier) identifier stores) named ∙ behind rest

first_other : (identifier other : ℕ) → (other == identifier) ≡ false → (stores : List Store) → is_first (is_named other) identifier stores ≡ false
first_other identifier other apart [] = refl
first_other identifier other apart (store ∷ stores) = by (is_named other store) refl (is_named identifier store) refl (first_other identifier other apart stores)
  where
    by : (here : Bool) → is_named other store ≡ here → (named : Bool) → is_named identifier store ≡ named → is_first (is_named other) identifier stores ≡ false → is_first (is_named other) identifier (store ∷ stores) ≡ false
    by true here named is rest =
        cond-true (is_named other store) _ _ here ∙ ap (λ (n : ℕ). n == identifier) (eqb-true store.identifier other here) ∙ apart
    by false here true is rest = cond-false (is_named other store) _ _ here ∙ ap (λ b. not b && is_first (is_named other) identifier stores) is
    by false here false is rest = cond-false (is_named other store) _ _ here ∙ ap (λ b. not b && is_first (is_named other) identifier stores) is ∙ rest

module _ (other : ℕ) (store next : Store) (same : next.identifier ≡ store.identifier) (stores : List Store) (found : find (is_named other) stores ≡ Some store) where
  keeps : (s : Store) → is_named other s ≡ true → next.identifier ≡ s.identifier
  keeps s named = same ∙ eqb-true store.identifier other (found_passes (is_named other) stores store found) ∙ sym (eqb-true s.identifier other named)

  -- another store in place of the one of an identifier is found by that, and each other one as before
  pub changed_own : find (is_named other) (with_store other next stores) ≡ Some next
  changed_own = (hit (is_named other) (λ _. next) keeps other stores (first_own other stores store found)).behind

  pub changed_other : (identifier : ℕ) → (other == identifier) ≡ false → find (is_named identifier) (with_store other next stores) ≡ find (is_named identifier) stores
  changed_other identifier apart = missed (is_named other) (λ _. next) keeps identifier stores (first_other identifier other apart stores)
