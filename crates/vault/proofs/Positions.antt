-- The place of the record at a position of a store.
use Rattle.std.proofs.Common.{◌≡◌, ℕ, zero, suc, ◌+◌, ◌%◌, ◌<◌, Bool, true, false, List, [], ◌∷◌, All, Option, Some, None, refl, sym, ◌∙◌, ap, subst, arith}
use Rattle.std.specs.Prelude.{if◌then◌else◌, slice_get}
use Rattle.std.specs.Option.{IsSomeAnd}
use Rattle.std.proofs.lemmas.List.Elements.{All-head, All-tail}
use Rattle.std.proofs.lemmas.Option.{none-some, same_Some, slice_get_within}
use Rattle.chain_log.specs.Loaded.{IsPlace}
use Rattle.chain_log.specs.declared.place.Place.{Place}
use Rattle.image_table.specs.Table.{table_rule}
use Rattle.record_view.specs.Records.{number_after}
use Rattle.record_view.specs.declared.link.Link.{Link}
use Rattle.store_directory.specs.Rows.{is_by}
use Rattle.store_load.specs.InRange.{AreInBlocks, AreInLinks, IsPlaced, block_for}
use Rattle.store_load.specs.Keeping.{IsInDevice}
use Rattle.time_index.specs.TimeIndex.{TimeIndex}
use Rattle.time_index.specs.declared.entry.Entry.{Entry}
use Rattle.vault.proofs.EachStores.{each_store_at}
use Rattle.vault.proofs.Loads.{all_at, own_at}
use Rattle.vault.proofs.Places.{some_at}
use Rattle.vault.specs.Fetching.{IsRecordAt}
use Rattle.vault.specs.Memory.{InMemory, IsSound, IsSoundStore}

-- a value of which P holds

pub some_and : {X : Type 0} (P : X → Type 0) (o : Option X) (x : X) → o ≡ Some x → P x → IsSomeAnd o P
some_and P None x is h = absurd (none-some x is)
some_and P (Some y) x is h = subst P (sym (same_Some y x is)) h

pub and_some : {X : Type 0} (P : X → Type 0) (o : Option X) → IsSomeAnd o P → (x : X) × (o ≡ Some x) × P x
and_some P None h = absurd h
and_some P (Some x) h = (x, refl, h)

-- the block of a link is one of the device
in_device : (blocks number : ℕ) (link : Link) (links : List Link) → All (IsInDevice blocks) (link ∷ links) → block_for number link links < blocks
in_device blocks number link [] own = All-head (IsInDevice blocks) link [] own
in_device blocks number link (next ∷ links) own =
    pick (is_by next.first number) (in_device blocks number next links (All-tail (IsInDevice blocks) link (next ∷ links) own))
  where
    pick : (t : Bool) → block_for number next links < blocks → (if t then block_for number next links else link.block) < blocks
    pick true behind = behind
    pick false behind = All-head (IsInDevice blocks) link (next ∷ links) own

entry_in : (blocks number : ℕ) (link : Link) (links : List Link) (entries : List Entry) (at : ℕ) (entry : Entry) → All (IsInDevice blocks) (link ∷ links)
    → AreInBlocks number link links entries → slice_get entries at ≡ Some entry → entry.block < blocks
entry_in blocks number link links [] at entry own are is = absurd (none-some entry is)
entry_in blocks number link links (e ∷ entries) zero entry own are is =
    subst (λ (e : Entry). e.block < blocks) (same_Some e entry is) (subst (λ (n : ℕ). n < blocks) (sym are.0) (in_device blocks number link links own))
entry_in blocks number link links (e ∷ entries) (suc at) entry own are is =
    entry_in blocks (number_after number) link links entries at entry own are.1 is

pub block_in : (blocks number : ℕ) (links : List Link) (entries : List Entry) (at : ℕ) (entry : Entry) → All (IsInDevice blocks) links
    → AreInLinks number links entries → slice_get entries at ≡ Some entry → entry.block < blocks
block_in blocks number [] entries at entry own are is = absurd (none-some entry (sym (ap (λ (l : List Entry). slice_get l at) are) ∙ is))
block_in blocks number (link ∷ links) entries at entry own are is = entry_in blocks number link links entries at entry own are is

-- the place of an entry
pub place_there : (vault : InMemory) (at position : ℕ) (index : TimeIndex) (entry : Entry) → IsSound vault
    → slice_get vault.indexes at ≡ Some index → slice_get index.entries position ≡ Some entry
    → IsPlace vault.blocks (record { block = entry.block; page = entry.page; length = entry.length })
place_there vault at position index entry sound is here =
    let within = slice_get_within vault.indexes at index is in
    let (s, there) = some_at vault.directory.stores at (omega (arith, within, sound.as_many)) in
    let P = IsSoundStore vault.directory.now in
    let (last, is_last, store) = each_store_at P vault.directory.stores vault.indexes vault.lasts at s index sound.stores there is in
    let placed = all_at (IsPlaced table_rule vault.directory.now) index.entries position entry store.in_place.in_range.placed here in
    record {
      block =
          block_in vault.blocks s.row.first s.links index.entries position entry
          (own_at vault.blocks vault.directory.stores at s sound.share there) store.in_place.in_range.blocks here;
      within = placed.within;
      shortest = placed.shortest;
      longest = placed.longest;
    }

-- a record's place and number, by its index and its entry
abbrev pub IsThere : (position : ℕ) (place : Place) (number : ℕ) → TimeIndex → Entry → Type 0
IsThere position place number index entry =
    (place ≡ record { block = entry.block; page = entry.page; length = entry.length }) × (number ≡ (index.first + position) % 4294967296)

pub record_there_is : (vault : InMemory) (at position : ℕ) (index : TimeIndex) (entry : Entry) (place : Place) (number : ℕ)
    → slice_get vault.indexes at ≡ Some index → slice_get index.entries position ≡ Some entry
    → place ≡ record { block = entry.block; page = entry.page; length = entry.length } → number ≡ (index.first + position) % 4294967296
    → IsRecordAt vault at position place number
record_there_is vault at position index entry place number is here same_place same_number =
    some_and (λ (index : TimeIndex). IsSomeAnd (slice_get index.entries position) (IsThere position place number index)) (slice_get vault.indexes at) index is
    (some_and (IsThere position place number index) (slice_get index.entries position) entry here (same_place, same_number))
