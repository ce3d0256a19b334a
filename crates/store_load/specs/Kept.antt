-- The records that a store keeps on an image, and when it may have them.
use Rattle.std.specs.Prelude.{ℕ, Bool, true, not, ◌&&◌, ◌==◌, nat_le, nat_lt, List, [], ◌∷◌, length, drop, Option, Some}
use Rattle.std.specs.List.{list_all}
use Rattle.record_view.specs.Records.{Meaning}
use Rattle.record_view.specs.declared.link.Link.{Link}
use Rattle.store_directory.specs.Options.{◌>>=◌, given}
use Rattle.store_directory.specs.Rows.{between, is_by}
use Rattle.store_directory.specs.declared.row.Row.{Row}
use Rattle.store_load.specs.Each.{each}
use Rattle.store_load.specs.Extents.{extents_of, joined, pages_in, read_extent}
use Rattle.store_load.specs.declared.rule.Rule.{Rule}

-- A store has blocks exactly where it has records. Its first record is in its first block.
abbrev pub begins_well : Row → List Link → Bool
begins_well row [] = row.count == 0
begins_well row (link ∷ []) = nat_lt 0 row.count && is_by link.first row.first
begins_well row (link ∷ next ∷ links) =
    nat_lt 0 row.count && is_by link.first row.first && not (is_by next.first row.first)

-- every block but the last has at least so many pages in use
abbrev pub are_filled : (least : ℕ) → List (List Meaning) → Bool
are_filled least [] = true
are_filled least (records ∷ []) = true
are_filled least (records ∷ next ∷ rest) =
    nat_le least (pages_in records) && are_filled least (next ∷ rest)

-- no packet is longer
abbrev pub are_short : (largest : ℕ) → List Meaning → Bool
are_short largest records = list_all (λ meaning. nat_le (length meaning.packet) largest) records

-- no stamp falls, and none is past `now`
abbrev pub rise_to : (now from : ℕ) → List Meaning → Bool
rise_to now from [] = true
rise_to now from (meaning ∷ records) =
    nat_le from meaning.stamp && nat_le meaning.stamp now && rise_to now meaning.stamp records

-- how many records of the first block are dead: those in front of the store's first one
abbrev pub dead_by : (first : ℕ) → List Link → ℕ
dead_by first [] = 0
dead_by first (link ∷ links) = between link.first first

abbrev pub live_of : Row → List Link → List (List Meaning) → List Meaning
live_of row links reads = drop (dead_by row.first links) (joined reads)

-- whether a store of this size may have these records, which its extents spell
abbrev pub may_keep : Rule → (now size : ℕ) → List (List Meaning) → List Meaning → Bool
may_keep rule now size reads records =
    are_filled rule.least reads && are_short rule.largest (joined reads) && rise_to now 0 records
    && nat_le (pages_in records) size

abbrev pub kept_by : Rule → (now : ℕ) → Row → List Link → List (List Meaning)
    → Option (List Meaning)
kept_by rule now row links reads = do
  _ ← given (may_keep rule now row.size reads (live_of row links reads))
  Some (live_of row links reads)

-- The records that a store keeps: its links begin where its records do, each block spells those of its
-- extent, and all of them keep the rule.
unfoldable pub kept_of : Rule → (image : ℕ → List ℕ) → (now : ℕ) → Row → List Link
    → Option (List Meaning)
kept_of rule image now row links = do
  _ ← given (begins_well row links)
  reads ← each (read_extent image) (extents_of row links)
  kept_by rule now row links reads
