-- The index of the records that a store keeps on an image.
use Rattle.std.specs.Prelude.{ℕ, ◌+◌, List, [], ◌∷◌, ◌++◌, length, drop, Option, Some}
use Rattle.space_packet.specs.Charge.{charge_of}
use Rattle.record_view.specs.Records.{Meaning}
use Rattle.record_view.specs.declared.link.Link.{Link}
use Rattle.store_directory.specs.Options.{◌>>=◌, given}
use Rattle.store_directory.specs.declared.row.Row.{Row}
use Rattle.time_index.specs.TimeIndex.{TimeIndex}
use Rattle.time_index.specs.declared.entry.Entry.{Entry}
use Rattle.store_load.specs.Each.{each}
use Rattle.store_load.specs.Extents.{Extent, extents_of, read_extent}
use Rattle.store_load.specs.Kept.{begins_well, dead_by, live_of, may_keep}
use Rattle.store_load.specs.Loading.{Progress, entry_at}
use Rattle.store_load.specs.Moving.{used_by}
use Rattle.store_load.specs.declared.loading.Limits.{Limits}
use Rattle.store_load.specs.declared.rule.Rule.{Rule}

-- the entries of records that follow one another in a block from a page on
abbrev pub placed : (block page : ℕ) → List Meaning → List Entry
placed block page [] = []
placed block page (meaning ∷ records) =
    entry_at block page meaning
    ∷ placed block (page + charge_of (length meaning.packet)) records

-- the entries of the records of extents
abbrev pub placed_all : List Extent → List (List Meaning) → List Entry
placed_all [] reads = []
placed_all (extent ∷ extents) [] = []
placed_all (extent ∷ extents) (records ∷ reads) =
    placed extent.block 0 records ++ placed_all extents reads

-- an index of a row with these entries
abbrev pub index_with : Row → List Entry → TimeIndex
index_with row entries = record { first = row.first; entries = entries; size = row.size }

abbrev pub index_by : Rule → (now : ℕ) → Row → List Link → List (List Meaning) → Option TimeIndex
index_by rule now row links reads = do
  _ ← given (may_keep rule now row.size reads (live_of row links reads))
  Some (index_with row (drop (dead_by row.first links) (placed_all (extents_of row links) reads)))

-- The index of a store: of each record that it keeps, the stamp, the place and the packet's length.
-- There is one exactly where the store keeps records by the rule.
unfoldable pub index_of : Rule → (image : ℕ → List ℕ) → (now : ℕ) → Row → List Link
    → Option TimeIndex
index_of rule image now row links = do
  _ ← given (begins_well row links)
  reads ← each (read_extent image) (extents_of row links)
  index_by rule now row links reads

-- before the first record was read
abbrev pub start_of : Row → List Link → Progress
start_of row links =
    record { index = index_with row []; dead = dead_by row.first links; last = 0 }

-- the limits that a rule sets for a row at a time
abbrev pub limits_of : Rule → (now : ℕ) → Row → Limits
limits_of rule now row = record { largest = rule.largest; now = now; size = row.size }

-- the pages that the records of the last block use, and 0 without a block
abbrev pub used_in : (image : ℕ → List ℕ) → Row → List Link → ℕ
used_in image row [] = 0
used_in image row (link ∷ links) = used_by image row link links

-- A stamp and a packet's length: of an entry, and of a record.

abbrev pub seen : Entry → ℕ × ℕ
seen entry = (entry.stamp, entry.length)

abbrev pub shown : Meaning → ℕ × ℕ
shown meaning = (meaning.stamp, length meaning.packet)
