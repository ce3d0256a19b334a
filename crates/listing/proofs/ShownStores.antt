-- The stores of a table by the places of what shows them.
use Rattle.std.proofs.Common.{◌≡◌, ℕ, zero, suc, List, [], ◌∷◌, Option, Some, refl, ◌∙◌, ap, subst, append-nil}
use Rattle.std.proofs.lemmas.Option.{none-some, same_Some}
use Rattle.std.specs.List.{flat_map}
use Rattle.std.specs.Option.{option_to_list}
use Rattle.std.specs.Prelude.{slice_get}
use Rattle.listing.specs.Parts.{one_at}
use Rattle.pst_model.specs.Table.{Store, Table}
use Rattle.store_directory.specs.Directory.{Listed}
use Rattle.store_policy.specs.Shown.{AreShown, IsStoreShown}
use Rattle.store_policy.specs.declared.view.View.{View}
use Rattle.time_index.specs.TimeIndex.{TimeIndex}
use Rattle.board.specs.Flash.{Flash}
use Rattle.vault.specs.Memory.{InMemory, IsViewOf}
use Rattle.vault.specs.Standing.{StandsFor}

pub shown_at : (stores : List Store) (listed : List Listed) (indexes : List TimeIndex) (at : ℕ) (s : Listed) (index : TimeIndex)
    → AreShown stores listed indexes → slice_get listed at ≡ Some s → slice_get indexes at ≡ Some index
    → (store : Store) × (slice_get stores at ≡ Some store) × IsStoreShown store s index
shown_at [] [] [] at s index shown here there = absurd (none-some s here)
shown_at (store ∷ stores) (l ∷ listed) (i ∷ indexes) zero s index shown here there = (
  store,
  refl,
  subst (λ (i : TimeIndex). IsStoreShown store s i) (same_Some i index there)
      (subst (λ (l : Listed). IsStoreShown store l i) (same_Some l s here) shown.0),
)
shown_at (store ∷ stores) (l ∷ listed) (i ∷ indexes) (suc at) s index shown here there =
    shown_at stores listed indexes at s index shown.1 here there
shown_at _ _ _ at s index shown here there = absurd shown

-- the text of what stands at a place
pub text_here : {X : Type 0} (f : X → List ℕ) (xs : List X) (at : ℕ) (x : X) → slice_get xs at ≡ Some x → flat_map f (one_at xs at) ≡ f x
text_here f xs at x is = ap (λ (o : Option _). flat_map f (option_to_list o)) is ∙ append-nil (f x)

-- the store of a told table at a place, by what is in memory
pub told_store : {vault : InMemory} {flash : Flash} {table : Table} (view : View) (at : ℕ) (s : Listed) (index : TimeIndex) → IsViewOf view vault
    → slice_get view.directory.now.stores at ≡ Some s → slice_get view.indexes.now at ≡ Some index → StandsFor vault flash table
    → (store : Store) × (slice_get table.stores at ≡ Some store) × IsStoreShown store s index
told_store {table = table} view at s index is here there stands =
    shown_at table.stores view.directory.now.stores view.indexes.now at s index (stands.shows view is).stores here there
