-- What goes out on a grant is the move of one store.
use Rattle.std.proofs.Common.{◌≡◌, ◌≢◌, ℕ, suc, Bool, true, false, List, [], ◌∷◌, Option, Some, None, inl, inr, refl, sym, ◌∙◌, ap, arith}
use Rattle.std.proofs.lemmas.Bool.{cond-false, cond-true, eqb-true, eq-eqb, ne_eqb}
use Rattle.std.proofs.lemmas.List.{get_or-map, length-map}
use Rattle.std.specs.Prelude.{◌&&◌, All, find, not, if◌then◌else◌}
use Rattle.pst_model.specs.Changes.{is_named}
use Rattle.pst_model.specs.Laws.{AreDistinct, identifiers}
use Rattle.pst_model.specs.Rules.{grant, grant_open, grant_range, has_ahead, has_range, range_next}
use Rattle.pst_model.specs.Table.{Store, Table}
use Rattle.pst_model.proofs.Carried.{found_has}
use Rattle.pst_model.proofs.Shapes.{found_passes}
use Rattle.pst_laws.specs.Grants.{IsGranted, Nothing, One}
use Rattle.pst_laws.specs.Moves.{Move, OpenSends, RangeSends, is_first, open_moves, range_moves}
use Rattle.pst_laws.proofs.Found.{IsHit, hit}

-- the identifier of the first one is that of no other one
apart : (store : Store) (stores : List Store) → AreDistinct (identifiers (store ∷ stores)) → All (λ (other : Store). store.identifier ≢ other.identifier) stores
apart store stores distinct k d lt same =
    let named = λ (s : Store). s.identifier in
    let there = get_or-map named stores k d 0 lt in
    distinct 0 (suc k) 0 (omega arith) (omega (arith, lt, length-map stores named)) (same ∙ sym there)

rest_distinct : (store : Store) (stores : List Store) → AreDistinct (identifiers (store ∷ stores)) → AreDistinct (identifiers stores)
rest_distinct store stores distinct i j d lt within = distinct (suc i) (suc j) d (omega (arith, lt)) (omega (arith, within))

-- the one that is found is the first of its identifier
found_first : (test : Store → Bool) (store : Store) (stores : List Store) → AreDistinct (identifiers stores) → find test stores ≡ Some store → is_first test store.identifier stores ≡ true
found_first test store [] distinct is = absurd cc
found_first test store (other ∷ stores) distinct is = by (test other) refl (found_first test store stores (rest_distinct other stores distinct))
  where
    by : (passes : Bool) → test other ≡ passes → (find test stores ≡ Some store → is_first test store.identifier stores ≡ true) → is_first test store.identifier (other ∷ stores) ≡ true
    by true passes behind =
        let first : Some other ≡ Some store = sym (cond-true (test other) (Some other) (find test stores) passes) ∙ is in
        let here : other ≡ store = cc in
        cond-true (test other) _ _ passes ∙ eq-eqb other.identifier store.identifier (ap (λ (s : Store). s.identifier) here)
    by false fails behind =
        let rest = sym (cond-false (test other) (Some other) (find test stores) fails) ∙ is in
        let differs = found_has (λ (s : Store). other.identifier ≢ s.identifier) test stores store (apart other stores distinct) rest in
        cond-false (test other) _ _ fails ∙ ap (λ b. not b && is_first test store.identifier stores) (ne_eqb other.identifier store.identifier differs)
        ∙ behind rest

module _ (number : ℕ) (table : Table) (distinct : AreDistinct (identifiers table.stores)) where
  abbrev moves : (Store → Bool) → Move → (identifier : ℕ) → List Move
  moves test move identifier = if is_first test identifier table.stores then move ∷ [] else []

  module _ (test : Store → Bool) (move : Move) (store : Store) (found : find test table.stores ≡ Some store) where
    found_hit : IsHit test (λ s. s) store.identifier table.stores
    found_hit = hit test (λ s. s) (λ s passes. refl) store.identifier table.stores (found_first test store table.stores distinct found)

    named : find (is_named store.identifier) table.stores ≡ Some store
    named = found_hit.found ∙ sym found_hit.first ∙ found

    moves_here : moves test move store.identifier ≡ move ∷ []
    moves_here = cond-true (is_first test store.identifier table.stores) (move ∷ []) [] (found_first test store table.stores distinct found)

    none_elsewhere : (other : ℕ) → store.identifier ≢ other → moves test move other ≡ []
    none_elsewhere other differs = by (is_first test other table.stores) refl
      where
        by : (first : Bool) → is_first test other table.stores ≡ first → moves test move other ≡ []
        by true first =
            let at = hit test (λ s. s) (λ s passes. refl) other table.stores first in
            let same : Some at.store ≡ Some store = sym at.first ∙ found in
            let here : at.store ≡ store = cc in
            let is : at.store.identifier ≡ other = eqb-true at.store.identifier other (found_passes (is_named other) table.stores at.store at.found) in
            absurd (differs (sym (ap (λ (s : Store). s.identifier) here) ∙ is))
        by false first = cond-false (is_first test other table.stores) (move ∷ []) [] first

  open_granted : (found : Option Store) → find has_ahead table.stores ≡ found → IsGranted number table (λ identifier. open_moves identifier table found) (grant_open number table found).outputs
  open_granted None is = Nothing refl (λ identifier. refl)
  open_granted (Some store) is =
      let move = OpenSends store.behind in
      One store store.behind (named has_ahead move store is) refl (inr (moves_here has_ahead move store is)) (none_elsewhere has_ahead move store is)

  range_granted : (found : Option Store) → find has_range table.stores ≡ found → IsGranted number table (λ identifier. range_moves identifier table found) (grant_range number table found).outputs
  range_granted None is = open_granted (find has_ahead table.stores) refl
  range_granted (Some store) is =
      let move = RangeSends (range_next store.range) in
      One store (range_next store.range) (named has_range move store is) refl (inl (moves_here has_range move store is)) (none_elsewhere has_range move store is)

  pub granted : IsGranted number table (λ identifier. range_moves identifier table (find has_range table.stores)) (grant number table).outputs
  granted = range_granted (find has_range table.stores) refl
