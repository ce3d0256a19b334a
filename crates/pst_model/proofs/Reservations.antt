-- Reservations stay within the blocks of the device.
use Rattle.std.proofs.Common.{◌≡◌, ◌⊎◌, ◌≤◌, inl, inr, ℕ, ◌+◌, Bool, false, List, [], ◌∷◌, ◌++◌, refl, sym, ◌∙◌, ap, subst, arith}
use Rattle.std.proofs.lemmas.Bool.{cond_both, eqb-true, ltb-false}
use Rattle.std.proofs.lemmas.List.Sums.{sum_by-cons, sum-map}
use Rattle.std.specs.Prelude.{IfOk, filter, map, not, sum}
use Rattle.block_pool.specs.Sizes.{blocks_for_size}
use Rattle.control_defs.specs.declared.instructions.Instruction.{Instruction}
use Rattle.pst_model.specs.Changes.{is_named, with_store}
use Rattle.pst_model.specs.Command.{Command}
use Rattle.pst_model.specs.Instructions.{instruct}
use Rattle.pst_model.specs.Laws.{IsReserved}
use Rattle.pst_model.specs.Run.{step}
use Rattle.pst_model.specs.Stores.{exceeds, new_store, reserved_by, without_store}
use Rattle.pst_model.specs.Table.{Store, Table}
use Rattle.pst_model.proofs.Carried.{effect_keeps}
use Rattle.pst_model.proofs.Effects.{Effect, Stays, Forwards, Changes, Creates, Removes, IsChange, SetsStorage, SetsOpen, SetsTypes, StartsRange, EndsRange, Deletes, MovesOpen, Resizes, SetsKind, SetsChannel, TakesWindow}
use Rattle.pst_model.proofs.Shapes.{found_passes, found_same, step_shape}

abbrev reserves : Store → ℕ
reserves store = blocks_for_size store.size

-- a change of one store keeps its size, or its reservation fits
change_size : (blocks : ℕ) (table : Table) (store next : Store) → IsChange blocks table store next → (next.size ≡ store.size) ⊎ (exceeds blocks (with_store store.identifier next table.stores) ≡ false)
change_size blocks table store next (SetsStorage flag) = inl refl
change_size blocks table store next (SetsOpen flag) = inl refl
change_size blocks table store next (SetsTypes patterns) = inl refl
change_size blocks table store next (StartsRange t1 t2) = inl refl
change_size blocks table store next EndsRange = inl refl
change_size blocks table store next (Deletes t) = inl refl
change_size blocks table store next (MovesOpen t) = inl refl
change_size blocks table store next (Resizes size sized holds fits) = inr fits
change_size blocks table store next (SetsKind kind) = inl refl
change_size blocks table store next (SetsChannel channel on) = inl refl
change_size blocks table store next (TakesWindow from t1 t2 source is none fits) = inl refl

sum-filter-le : (test : Store → Bool) (stores : List Store) → reserved_by (filter test stores) ≤ reserved_by stores
sum-filter-le test [] = omega arith
sum-filter-le test (store ∷ stores) =
    cond_both (test store) (store ∷ filter test stores) (filter test stores) (λ (l : List Store). reserved_by l ≤ reserved_by (store ∷ stores))
    (λ passes. omega (arith, sum_by-cons reserves store (filter test stores), sum_by-cons reserves store stores, sum-filter-le test stores))
    (λ fails. omega (arith, sum_by-cons reserves store stores, sum-filter-le test stores))

-- with the sum of what each reserves
abbrev Fits : ℕ → List ℕ → Type 0
Fits blocks reserved = sum reserved + 8 ≤ blocks

fits_from : (blocks : ℕ) (stores : List Store) → IsReserved blocks stores → Fits blocks (map reserves stores)
fits_from blocks stores reserved = omega (arith, sum-map reserves stores)

reserved_from : (blocks : ℕ) (stores : List Store) → Fits blocks (map reserves stores) → IsReserved blocks stores
reserved_from blocks stores fits = omega (arith, sum-map reserves stores)

not_exceeding : (blocks : ℕ) (stores : List Store) → exceeds blocks stores ≡ false → Fits blocks (map reserves stores)
not_exceeding blocks stores fits = fits_from blocks stores (ltb-false blocks (reserved_by stores + 8) fits)

effect_reserved : (blocks : ℕ) (table next : Table) → Fits blocks (map reserves table.stores) → Effect blocks table next → Fits blocks (map reserves next.stores)
effect_reserved blocks table next fits Stays = fits
effect_reserved blocks table next fits (Forwards patterns) = fits
effect_reserved blocks table next fits (Changes identifier store other found change) = elim (change_size blocks table store other change) [
  | inl same ↦ subst (Fits blocks) (sym (found_same reserves (is_named identifier) store other (ap blocks_for_size same) table.stores found)) fits
  | inr fit ↦
      let named_so : store.identifier ≡ identifier = eqb-true store.identifier identifier (found_passes (is_named identifier) table.stores store found) in
      not_exceeding blocks (with_store identifier other table.stores) (ap (λ (n : ℕ). exceeds blocks (with_store n other table.stores)) (sym named_so) ∙ fit)
]
effect_reserved blocks table next fits (Creates identifier kind size channel new few sized on fit) = not_exceeding blocks (table.stores ++ new_store identifier kind size channel ∷ []) fit
effect_reserved blocks table next fits (Removes identifier) =
    let kept = λ (store : Store). not (is_named identifier store) in
    fits_from blocks (without_store identifier table.stores) (omega (arith, sum-filter-le kept table.stores, reserved_from blocks table.stores fits))

pub step_reserved : (blocks number : ℕ) (command : Command) (table : Table) → IsReserved blocks table.stores → IsReserved blocks (step blocks number command table).table.stores
step_reserved blocks number command table reserved =
    reserved_from blocks (step blocks number command table).table.stores
    (step_shape reserves (λ store packets behind range told. refl) (Fits blocks) blocks (effect_reserved blocks) number command table (fits_from blocks table.stores reserved))

pub instruct_reserved : (blocks : ℕ) (item : Instruction) (table : Table) → IsReserved blocks table.stores → IfOk (instruct blocks item table) (λ (next : Table). IsReserved blocks next.stores)
instruct_reserved blocks item table reserved =
    effect_keeps (λ (next : Table). IsReserved blocks next.stores) blocks item table
    (λ next effect. reserved_from blocks next.stores (effect_reserved blocks table next (fits_from blocks table.stores reserved) effect))
