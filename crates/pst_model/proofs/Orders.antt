-- Stores stay in the order of their creation, and are at most 32.
use Rattle.std.proofs.Common.{◌≡◌, ◌≢◌, ◌<◌, ◌≤◌, ℕ, Bool, true, false, List, [], ◌∷◌, ◌++◌, Some, length, refl, sym, ◌∙◌, ap, subst, arith, length-append}
use Rattle.std.proofs.lemmas.List.{length-map}
use Rattle.std.proofs.lemmas.Bool.{cond_both, cond-false, cond-true, eqb-false, leb-false}
use Rattle.std.proofs.lemmas.List.Elements.{All-cons, All-nil}
use Rattle.std.proofs.lemmas.List.Kept.{AllPairs-filter}
use Rattle.std.proofs.lemmas.List.Quantifiers.{all_pairs_push}
use Rattle.std.proofs.lemmas.List.Sums.{count_by-le-length, length-filter}
use Rattle.std.specs.Prelude.{All, ◌==◌, filter, find, is_some, map, not}
use Rattle.pst_model.specs.Changes.{is_named}
use Rattle.pst_model.specs.Command.{Command}
use Rattle.pst_model.specs.Laws.{AreDistinct, InOrder, OneLast, Same, Without, identifiers}
use Rattle.pst_model.specs.Run.{step}
use Rattle.pst_model.specs.Stores.{new_store, without_store}
use Rattle.pst_model.specs.Table.{Store, Table}
use Rattle.pst_model.proofs.Effects.{Effect, Stays, Forwards, Changes, Creates, Removes, IsChange, SetsStorage, SetsOpen, SetsTypes, StartsRange, EndsRange, Deletes, MovesOpen, Resizes, SetsKind, SetsChannel, TakesWindow}
use Rattle.pst_model.proofs.Shapes.{found_same, step_shape}

abbrev named : Store → ℕ
named store = store.identifier

change_named : (blocks : ℕ) (table : Table) (store next : Store) → IsChange blocks table store next → next.identifier ≡ store.identifier
change_named blocks table store next (SetsStorage flag) = refl
change_named blocks table store next (SetsOpen flag) = refl
change_named blocks table store next (SetsTypes patterns) = refl
change_named blocks table store next (StartsRange t1 t2) = refl
change_named blocks table store next EndsRange = refl
change_named blocks table store next (Deletes t) = refl
change_named blocks table store next (MovesOpen t) = refl
change_named blocks table store next (Resizes size sized holds fits) = refl
change_named blocks table store next (SetsKind kind) = refl
change_named blocks table store next (SetsChannel channel on) = refl
change_named blocks table store next (TakesWindow from t1 t2 source is none fits) = refl

-- a store that is not found is none of them
new_among : (identifier : ℕ) (stores : List Store) → is_some (find (is_named identifier) stores) ≡ false → All (λ other. other ≢ identifier) (identifiers stores)
new_among identifier [] none = All-nil (λ other. other ≢ identifier)
new_among identifier (store ∷ stores) none = by (is_named identifier store) refl (new_among identifier stores)
  where
    by : (passes : Bool) → is_named identifier store ≡ passes → (is_some (find (is_named identifier) stores) ≡ false → All (λ other. other ≢ identifier) (identifiers stores))
        → All (λ other. other ≢ identifier) (identifiers (store ∷ stores))
    by true passes behind = let found = sym (ap is_some (cond-true (is_named identifier store) (Some store) (find (is_named identifier) stores) passes)) ∙ none in absurd cc
    by false fails behind =
        All-cons (λ other. other ≢ identifier) store.identifier (identifiers stores) (eqb-false store.identifier identifier fails)
        (behind (sym (ap is_some (cond-false (is_named identifier store) (Some store) (find (is_named identifier) stores) fails)) ∙ none))

without_named : (identifier : ℕ) (stores : List Store) → identifiers (without_store identifier stores) ≡ filter (λ other. not (other == identifier)) (identifiers stores)
without_named identifier [] = refl
without_named identifier (store ∷ stores) =
    cond_both (not (is_named identifier store)) _ _ (λ (l : List Store). identifiers l ≡ filter (λ other. not (other == identifier)) (identifiers (store ∷ stores)))
    (λ kept. ap (λ (l : List ℕ). store.identifier ∷ l) (without_named identifier stores) ∙ sym (cond-true (not (store.identifier == identifier)) _ _ kept))
    (λ gone. without_named identifier stores ∙ sym (cond-false (not (store.identifier == identifier)) _ _ gone))

appended : {X : Type 0} (f : Store → X) (stores : List Store) (store : Store) → map f (stores ++ store ∷ []) ≡ map f stores ++ f store ∷ []
appended f [] store = refl
appended {X} f (first ∷ stores) store = ap (λ (l : List X). f first ∷ l) (appended f stores store)

effect_order : (before : List ℕ) (blocks : ℕ) (table next : Table) → InOrder before (identifiers table.stores) → Effect blocks table next → InOrder before (identifiers next.stores)
effect_order before blocks table next order Stays = order
effect_order before blocks table next order (Forwards patterns) = order
effect_order before blocks table next order (Changes identifier store other found change) =
    subst (InOrder before) (sym (found_same named (is_named identifier) store other (change_named blocks table store other change) table.stores found)) order
effect_order before blocks table next order (Creates identifier kind size channel new few sized on fits) =
    subst (InOrder before) (sym (appended named table.stores (new_store identifier kind size channel))) (OneLast (identifiers table.stores) identifier order (new_among identifier table.stores new))
effect_order before blocks table next order (Removes identifier) = subst (InOrder before) (sym (without_named identifier table.stores)) (Without (identifiers table.stores) identifier order)

pub step_order : (blocks number : ℕ) (command : Command) (table : Table) → InOrder (identifiers table.stores) (identifiers (step blocks number command table).table.stores)
step_order blocks number command table =
    step_shape named (λ store packets behind range told. refl) (InOrder (identifiers table.stores)) blocks (effect_order (identifiers table.stores) blocks) number command table Same

-- where they were distinct, they are
order_distinct : (before after : List ℕ) → AreDistinct before → InOrder before after → AreDistinct after
order_distinct before after distinct Same = distinct
order_distinct before after distinct (OneLast others identifier order new) =
    all_pairs_push (λ a b. a ≢ b) others identifier (order_distinct before others distinct order) (λ k d lt. new k d lt)
order_distinct before after distinct (Without others identifier order) =
    AllPairs-filter (λ a b. a ≢ b) (λ other. not (other == identifier)) others (order_distinct before others distinct order)

pub step_distinct : (blocks number : ℕ) (command : Command) (table : Table) → AreDistinct (identifiers table.stores) → AreDistinct (identifiers (step blocks number command table).table.stores)
step_distinct blocks number command table distinct = order_distinct (identifiers table.stores) _ distinct (step_order blocks number command table)

-- at most 32 stores
effect_few : (blocks : ℕ) (table next : Table) → length (identifiers table.stores) ≤ 32 → Effect blocks table next → length (identifiers next.stores) ≤ 32
effect_few blocks table next few Stays = few
effect_few blocks table next few (Forwards patterns) = few
effect_few blocks table next few (Changes identifier store other found change) =
    subst (λ (l : List ℕ). length l ≤ 32) (sym (found_same named (is_named identifier) store other (change_named blocks table store other change) table.stores found)) few
effect_few blocks table next few (Creates identifier kind size channel new below sized on fits) =
    let less : length table.stores < 32 = leb-false 32 (length table.stores) below in
    omega (arith, length-map (table.stores ++ new_store identifier kind size channel ∷ []) named, length-append table.stores (new_store identifier kind size channel ∷ []))
effect_few blocks table next few (Removes identifier) =
    let kept = λ (store : Store). not (is_named identifier store) in
    omega (arith, length-map (without_store identifier table.stores) named, length-map table.stores named, length-filter kept table.stores, count_by-le-length kept table.stores)

pub step_few : (blocks number : ℕ) (command : Command) (table : Table) → length table.stores ≤ 32 → length (step blocks number command table).table.stores ≤ 32
step_few blocks number command table few =
    let next = (step blocks number command table).table.stores in
    let kept = step_shape named (λ store packets behind range told. refl) (λ (l : List ℕ). length l ≤ 32) blocks (effect_few blocks) number command table (omega (arith, length-map table.stores named)) in
    omega (arith, length-map next named, kept)
