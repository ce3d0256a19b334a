-- The index of a store, as its records are loaded one after another.
use Rattle.std.specs.Prelude.{◌≡◌, ◌≤◌, ⊤, ℕ, zero, suc, ◌+◌, ◌&&◌, ◌||◌, nat_le, Bool, true, false, if◌then◌else◌, List, [], ◌∷◌, length, slice_get, IfSome, Option, Some, None, Result, Err}
use Rattle.record_view.specs.Records.{Meaning}
use Rattle.space_packet.specs.Charge.{charge_of}
use Rattle.store_directory.specs.Options.{◌>>=◌, given}
use Rattle.time_index.specs.TimeIndex.{TimeIndex, pages_of, with_entry}
use Rattle.time_index.specs.declared.entry.Entry.{Entry}
use Rattle.store_load.specs.Extents.{Extent, IsGiven, pages_in, read_extent}
use Rattle.store_load.specs.Frame.{pages_read}
use Rattle.store_load.specs.declared.loading.Limits.{Limits}
use Rattle.store_load.specs.declared.stop.LoadStop.{LoadStop}
use Rattle.store_load.specs.declared.stop.LoadStop.TheVariants.{Flash, Unlawful}

-- How far a store is loaded: its index, how many dead records are still to come, and the last stamp
-- that was kept.
pub record Progress : Type 0 where
  pub index : TimeIndex
  pub dead : ℕ
  pub last : ℕ

-- what the index keeps of a record
abbrev pub entry_at : (block page : ℕ) → Meaning → Entry
entry_at block page meaning = record {
  stamp = meaning.stamp;
  block = block;
  page = page;
  length = length meaning.packet;
}

-- whether the index may keep a record behind those that it has
abbrev pub may_follow : Limits → Progress → Meaning → Bool
may_follow limits progress meaning =
    nat_le progress.last meaning.stamp && nat_le meaning.stamp limits.now
    && nat_le (pages_of progress.index.entries + charge_of (length meaning.packet)) limits.size

abbrev pub with_live : Progress → Entry → Progress
with_live progress entry =
    record { index = with_entry progress.index entry; dead = 0; last = entry.stamp }

-- a dead record is passed over
abbrev pub take_short : Limits → (dead block page : ℕ) → Meaning → Progress → Option Progress
take_short limits zero block page meaning progress =
    if may_follow limits progress meaning
    then Some (with_live progress (entry_at block page meaning)) else None
take_short limits (suc dead) block page meaning progress =
    Some (record { index = progress.index; dead = dead; last = progress.last })

-- one record more, if the rule allows it
abbrev pub take_one : Limits → (block page : ℕ) → Meaning → Progress → Option Progress
take_one limits block page meaning progress =
    if nat_le (length meaning.packet) limits.largest
    then take_short limits progress.dead block page meaning progress else None

-- the records of a block, from a page on
unfoldable pub take_records : Limits → (block page : ℕ) → List Meaning → Progress → Option Progress
take_records limits block page [] progress = Some progress
take_records limits block page (meaning ∷ records) progress = do
  next ← take_one limits block page meaning progress
  take_records limits block (page + charge_of (length meaning.packet)) records next

-- A block was loaded as an extent: on every board it spelled as many records as the extent has, and
-- the index took them. If the flash is told, they are those of the extent.
pub record IsLoaded (limits : Limits) (told : Type 0) (image : ℕ → List ℕ) (extent : Extent)
    (old new : Progress) (used : ℕ) : Type 0 where
  pub records : List Meaning
  pub given : IsGiven extent records
  pub read : told → read_extent image extent ≡ Some records
  pub used_is : used ≡ pages_in records
  pub within : used ≤ 256
  pub taken : take_records limits extent.block 0 records old ≡ Some new

-- it is not an extent whose records the index may take
abbrev pub IsRefused : Limits → (image : ℕ → List ℕ) → Extent → Progress → Type 0
IsRefused limits image extent progress = (records : List Meaning)
    → read_extent image extent ≡ Some records
    → take_records limits extent.block 0 records progress ≡ None

-- something that holds of a stop by its kind
abbrev pub OnLoadFlash : {A : Type 0} → Result A LoadStop → Type 0 → Type 0
OnLoadFlash (Err Flash) P = P
OnLoadFlash answer P = ⊤

abbrev pub OnUnlawful : {A : Type 0} → Result A LoadStop → Type 0 → Type 0
OnUnlawful (Err Unlawful) P = P
OnUnlawful answer P = ⊤

abbrev pub UnlessLoadFlash : {A : Type 0} → Result A LoadStop → Type 0 → Type 0
UnlessLoadFlash (Err Flash) P = ⊤
UnlessLoadFlash answer P = P

abbrev pub is_last : List Extent → Bool
is_last [] = true
is_last (extent ∷ extents) = false

-- the records of extents on an image, of which every one but the last has at least so many pages in
-- use
unfoldable pub load_extents : Limits → (least : ℕ) → (image : ℕ → List ℕ) → List Extent → Progress
    → Option Progress
load_extents limits least image [] progress = Some progress
load_extents limits least image (extent ∷ extents) progress = do
  records ← read_extent image extent
  next ← take_records limits extent.block 0 records progress
  _ ← given (is_last extents || nat_le least (pages_in records))
  load_extents limits least image extents next

-- The pages that the records of the extent in front of a place use, and 0 in front of the first one.
abbrev pub UsedBefore : (image : ℕ → List ℕ) → List Extent → (at used : ℕ) → Type 0
UsedBefore image extents zero used = used ≡ 0
UsedBefore image extents (suc at) used =
    IfSome (slice_get extents at) (λ extent. used ≡ pages_read (read_extent image extent))
