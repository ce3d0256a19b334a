-- Stores of a directory, each with what is loaded of it.
use Rattle.std.proofs.Common.{◌≡◌, ℕ, zero, suc, List, [], ◌∷◌, ◌++◌, length, take, Some, refl, sym, ap, subst}
use Rattle.std.specs.Prelude.{slice_get}
use Rattle.std.proofs.lemmas.Option.{none-some, same_Some}
use Rattle.store_directory.specs.Directory.{Listed}
use Rattle.time_index.specs.TimeIndex.{TimeIndex}
use Rattle.vault.proofs.Places.{take_one}
use Rattle.vault.specs.Loading.{GainsStore}
use Rattle.vault.specs.Memory.{EachStore}
use Rattle.vault.specs.declared.last_block.LastBlock.{LastBlock}

-- one store more
pub each_gains : (P : Listed → TimeIndex → LastBlock → Type 0) (stores : List Listed) (indexes : List TimeIndex) (lasts : List LastBlock)
    (s : Listed) (index : TimeIndex) (last : LastBlock) → EachStore P stores indexes lasts → P s index last
    → EachStore P (stores ++ s ∷ []) (indexes ++ index ∷ []) (lasts ++ last ∷ [])
each_gains P [] [] [] s index last each here = (here, tt)
each_gains P [] [] (l ∷ lasts) s index last each here = absurd each
each_gains P [] (i ∷ indexes) lasts s index last each here = absurd each
each_gains P (x ∷ stores) [] lasts s index last each here = absurd each
each_gains P (x ∷ stores) (i ∷ indexes) [] s index last each here = absurd each
each_gains P (x ∷ stores) (i ∷ indexes) (l ∷ lasts) s index last each here =
    (each.0, each_gains P stores indexes lasts s index last each.1 here)

-- what holds of each store holds weaker of each
pub each_gives : (P Q : Listed → TimeIndex → LastBlock → Type 0) → ((s : Listed) (index : TimeIndex) (last : LastBlock) → P s index last → Q s index last)
    → (stores : List Listed) (indexes : List TimeIndex) (lasts : List LastBlock) → EachStore P stores indexes lasts → EachStore Q stores indexes lasts
each_gives P Q f [] [] [] each = tt
each_gives P Q f [] [] (l ∷ lasts) each = absurd each
each_gives P Q f [] (i ∷ indexes) lasts each = absurd each
each_gives P Q f (x ∷ stores) [] lasts each = absurd each
each_gives P Q f (x ∷ stores) (i ∷ indexes) [] each = absurd each
each_gives P Q f (x ∷ stores) (i ∷ indexes) (l ∷ lasts) each =
    (f x i l each.0, each_gives P Q f stores indexes lasts each.1)

pub as_many_indexes : (P : Listed → TimeIndex → LastBlock → Type 0) (stores : List Listed) (indexes : List TimeIndex) (lasts : List LastBlock)
    → EachStore P stores indexes lasts → length indexes ≡ length stores
as_many_indexes P [] [] [] each = refl
as_many_indexes P [] [] (l ∷ lasts) each = absurd each
as_many_indexes P [] (i ∷ indexes) lasts each = absurd each
as_many_indexes P (x ∷ stores) [] lasts each = absurd each
as_many_indexes P (x ∷ stores) (i ∷ indexes) [] each = absurd each
as_many_indexes P (x ∷ stores) (i ∷ indexes) (l ∷ lasts) each = ap suc (as_many_indexes P stores indexes lasts each.1)

pub as_many_lasts : (P : Listed → TimeIndex → LastBlock → Type 0) (stores : List Listed) (indexes : List TimeIndex) (lasts : List LastBlock)
    → EachStore P stores indexes lasts → length lasts ≡ length stores
as_many_lasts P [] [] [] each = refl
as_many_lasts P [] [] (l ∷ lasts) each = absurd each
as_many_lasts P [] (i ∷ indexes) lasts each = absurd each
as_many_lasts P (x ∷ stores) [] lasts each = absurd each
as_many_lasts P (x ∷ stores) (i ∷ indexes) [] each = absurd each
as_many_lasts P (x ∷ stores) (i ∷ indexes) (l ∷ lasts) each = ap suc (as_many_lasts P stores indexes lasts each.1)

-- the store, the index and the last block at a place
pub each_store_at : (P : Listed → TimeIndex → LastBlock → Type 0) (stores : List Listed) (indexes : List TimeIndex) (lasts : List LastBlock)
    (at : ℕ) (s : Listed) (index : TimeIndex) → EachStore P stores indexes lasts → slice_get stores at ≡ Some s → slice_get indexes at ≡ Some index
    → (last : LastBlock) × (slice_get lasts at ≡ Some last) × P s index last
each_store_at P [] indexes lasts at s index each is has = absurd (none-some s is)
each_store_at P (x ∷ stores) [] lasts at s index each is has = absurd each
each_store_at P (x ∷ stores) (i ∷ indexes) [] at s index each is has = absurd each
each_store_at P (x ∷ stores) (i ∷ indexes) (l ∷ lasts) zero s index each is has =
    (l, refl, subst (λ s. P s index l) (same_Some x s is) (subst (λ i. P x i l) (same_Some i index has) each.0))
each_store_at P (x ∷ stores) (i ∷ indexes) (l ∷ lasts) (suc at) s index each is has =
    each_store_at P stores indexes lasts at s index each.1 is has

-- the stores up to a place, and the one there
pub each_then : (P : Listed → TimeIndex → LastBlock → Type 0) (stores : List Listed) (at : ℕ) (s : Listed) (indexes new_indexes : List TimeIndex)
    (lasts new_lasts : List LastBlock) → slice_get stores at ≡ Some s → EachStore P (take at stores) indexes lasts
    → GainsStore (P s) indexes lasts new_indexes new_lasts → EachStore P (take (suc at) stores) new_indexes new_lasts
each_then P stores at s indexes new_indexes lasts new_lasts is each gains =
    subst (λ (l : List Listed). EachStore P l new_indexes new_lasts) (sym (take_one stores at s is))
    (subst (λ (l : List TimeIndex). EachStore P (take at stores ++ s ∷ []) l new_lasts) (sym gains.indexes)
    (subst (λ (l : List LastBlock). EachStore P (take at stores ++ s ∷ []) (indexes ++ gains.index ∷ []) l) (sym gains.lasts)
    (each_gains P (take at stores) indexes lasts s gains.index gains.last each gains.loaded)))
