-- What a copy does to the stores.
use Rattle.std.proofs.Common.{◌≡◌, ◌≢◌, ℕ, Bool, true, false, List, [], ◌∷◌, Option, Some, None, Result, Ok, Err, refl, sym, ◌∙◌, ap}
use Rattle.std.proofs.lemmas.Bool.{cond-false, cond-true, eqb-false, eqb-true, eq-eqb, ne_eqb}
use Rattle.std.specs.Prelude.{find, if◌then◌else◌}
use Rattle.control_defs.specs.declared.instructions.Instruction.TheVariants.{Copy}
use Rattle.pst_model.specs.Changes.{is_named, of_store, where_found, with_changed, with_store}
use Rattle.pst_model.specs.Copies.{copy_checks, take_window}
use Rattle.pst_model.specs.Failures.{unless}
use Rattle.pst_model.specs.Instructions.{instruct}
use Rattle.pst_model.specs.Laws.{HasCopied}
use Rattle.pst_model.specs.Ranges.{window_of}
use Rattle.pst_model.specs.Rules.{at_first}
use Rattle.pst_model.specs.Table.{Store, Table}
use Rattle.pst_model.proofs.Effects.{Passed}
use Rattle.pst_model.proofs.Shapes.{found_passes}

-- an outcome comes by a store that stands
of_store-is : (identifier : ℕ) (table next : Table) (outcome : Store → Result Table ℕ) → of_store identifier table outcome ≡ Ok next
    → (store : Store) × (find (is_named identifier) table.stores ≡ Some store) × (outcome store ≡ Ok next)
of_store-is identifier table next outcome = by (find (is_named identifier) table.stores) refl
  where
    by : (found : Option Store) → find (is_named identifier) table.stores ≡ found → where_found outcome found ≡ Ok next
        → (store : Store) × (find (is_named identifier) table.stores ≡ Some store) × (outcome store ≡ Ok next)
    by (Some store) found is = (store, found, is)
    by None found is = absurd cc

with_changed-is : (identifier : ℕ) (table next : Table) (outcome : Result Store ℕ) → with_changed identifier table outcome ≡ Ok next
    → (store : Store) × (outcome ≡ Ok store) × (record table { stores = with_store identifier store table.stores } ≡ next)
with_changed-is identifier table next (Ok store) is = (store, refl, (let same : record table { stores = with_store identifier store table.stores } ≡ next = cc in same))
with_changed-is identifier table next (Err code) is = absurd cc

-- an outcome comes where no check fails
unless-is : (checks : List (Bool × ℕ)) (outcome next : Store) → unless checks outcome ≡ Ok next → Passed checks × (outcome ≡ next)
unless-is [] outcome next is = (tt, (let same : outcome ≡ next = cc in same))
unless-is (check ∷ checks) outcome next is = by check.0 refl (unless-is checks outcome next)
  where
    by : (fails : Bool) → check.0 ≡ fails → (unless checks outcome ≡ Ok next → Passed checks × (outcome ≡ next)) → Passed (check ∷ checks) × (outcome ≡ next)
    by true fails behind =
        let no : Err check.1 ≡ Ok next = sym (cond-true check.0 (Err check.1) (unless checks outcome) fails) ∙ is in absurd cc
    by false passes behind =
        let rest = behind (sym (cond-false check.0 (Err check.1) (unless checks outcome) passes) ∙ is) in
        ((passes, rest.0), rest.1)

-- another store in place of the first that passes is found by a test that it passes too
find-same : (test : Store → Bool) (store next : Store) → test next ≡ true → (stores : List Store) → find test stores ≡ Some store → find test (at_first test (λ _. next) stores) ≡ Some next
find-same test store next passes [] is = absurd cc
find-same test store next passes (other ∷ stores) is = by (test other) refl (find-same test store next passes stores)
  where
    by : (here : Bool) → test other ≡ here → (find test stores ≡ Some store → find test (at_first test (λ _. next) stores) ≡ Some next)
        → find test (at_first test (λ _. next) (other ∷ stores)) ≡ Some next
    by true here behind =
        ap (find test) (cond-true (test other) (next ∷ stores) (other ∷ at_first test (λ _. next) stores) here)
        ∙ cond-true (test next) (Some next) (find test stores) passes
    by false here behind =
        ap (find test) (cond-false (test other) (next ∷ stores) (other ∷ at_first test (λ _. next) stores) here)
        ∙ cond-false (test other) (Some other) (find test (at_first test (λ _. next) stores)) here
        ∙ behind (sym (cond-false (test other) (Some other) (find test stores) here) ∙ is)

-- and by a test that fails on both, others are found as before
find-other : (test other : Store → Bool) (next : Store) → other next ≡ false → ((store : Store) → test store ≡ true → other store ≡ false)
    → (stores : List Store) → find other (at_first test (λ _. next) stores) ≡ find other stores
find-other test other next fails apart [] = refl
find-other test other next fails apart (store ∷ stores) = by (test store) refl (find-other test other next fails apart stores)
  where
    by : (here : Bool) → test store ≡ here → find other (at_first test (λ _. next) stores) ≡ find other stores → find other (at_first test (λ _. next) (store ∷ stores)) ≡ find other (store ∷ stores)
    by true here behind =
        ap (find other) (cond-true (test store) (next ∷ stores) (store ∷ at_first test (λ _. next) stores) here)
        ∙ cond-false (other next) (Some next) (find other stores) fails
        ∙ sym (cond-false (other store) (Some store) (find other stores) (apart store here))
    by false here behind =
        ap (find other) (cond-false (test store) (next ∷ stores) (store ∷ at_first test (λ _. next) stores) here)
        ∙ ap (λ (found : Option Store). if other store then Some store else found) behind

pub copied : (blocks from to t1 t2 : ℕ) (table next : Table) → instruct blocks (Copy from to t1 t2) table ≡ Ok next → HasCopied from to t1 t2 table next
copied blocks from to t1 t2 table next is =
    let first = of_store-is from table next _ is in
    let source = first.0 in
    let second = of_store-is to table next _ first.2 in
    let destination = second.0 in
    let third = with_changed-is to table next (take_window source t1 t2 destination) second.2 in
    let fourth = unless-is (copy_checks source t1 t2 destination) _ third.0 third.1 in
    let with : Store = record destination { packets = window_of t1 t2 source.packets; told = false } in
    let stores : with_store to with table.stores ≡ next.stores = ap (λ (s : Store). with_store to s table.stores) fourth.1 ∙ ap (λ (t : Table). t.stores) third.2 in
    let named : destination.identifier ≡ to = eqb-true destination.identifier to (found_passes (is_named to) table.stores destination second.1) in
    let from_named : source.identifier ≡ from = eqb-true source.identifier from (found_passes (is_named from) table.stores source first.1) in
    let apart : source.identifier ≢ destination.identifier = eqb-false source.identifier destination.identifier fourth.0.0 in
    let others : (identifier : ℕ) → identifier ≢ to → find (is_named identifier) next.stores ≡ find (is_named identifier) table.stores =
    λ identifier other.
    sym (ap (find (is_named identifier)) stores)
    ∙ find-other (is_named to) (is_named identifier) with (ne_eqb destination.identifier identifier (λ same. other (sym same ∙ named)))
    (λ store here. ne_eqb store.identifier identifier (λ same. other (sym same ∙ eqb-true store.identifier to here))) table.stores in
    record {
      source = source;
      destination = destination;
      found = first.1;
      into = second.1;
      taken = sym (ap (find (is_named to)) stores) ∙ find-same (is_named to) destination with (eq-eqb destination.identifier to named) table.stores second.1;
      kept = others from (λ same. apart (from_named ∙ same ∙ sym named)) ∙ first.1;
      others = others;
    }
