-- Changes as octets, and the changes of an entry's text.
use Rattle.std.specs.Prelude.{◌<◌, ◌^◌, ℕ, zero, suc, ◌+◌, ◌*◌, Bool, true, false, ◌&&◌, nat_le, if◌then◌else◌, List, [], ◌∷◌, ◌++◌, length, take, drop, slice_index, Option, Some, None}
use Rattle.std.specs.List.{All, flat_map}
use Rattle.std.specs.Option.{option_map}
use Rattle.octet_fields.specs.Fields.{big_bytes, field}
use Rattle.control_defs.specs.PatternOctets.{pattern_octets, spelled_pattern}
use Rattle.control_defs.specs.Patterns.{HasPatternOctets, IsPattern}
use Rattle.record_view.specs.declared.link.Link.{Link}
use Rattle.store_directory.specs.Changes.{Change, Clock, Forward, Gone, Links, Put, Swap, Types}
use Rattle.store_directory.specs.Directory.{FitsLink}
use Rattle.store_directory.specs.Options.{◌>>=◌}
use Rattle.store_directory.specs.Rows.{FitsRow, row_in, row_octets}

-- a link: its block (2) and the number of its first record (4)
abbrev pub link_octets : Link → List ℕ
link_octets link = big_bytes 2 link.block ++ big_bytes 4 link.first

abbrev pub links_octets : List Link → List ℕ
links_octets links = flat_map link_octets links

-- so many links from the front
abbrev pub links_in : (count : ℕ) → List ℕ → List Link
links_in zero octets = []
links_in (suc count) octets =
    record { block = field 2 0 octets; first = field 4 2 octets } ∷ links_in count (drop 6 octets)

-- 1 where a pattern is added, 0 where it is removed
abbrev pub add_octet : Bool → ℕ
add_octet false = 0
add_octet true = 1

-- A change: a tag (1) and its fields.
abbrev pub change_octets : Change → List ℕ
change_octets (Clock now reports) = 1 ∷ big_bytes 6 now ++ big_bytes 2 reports
change_octets (Put row) = 2 ∷ row_octets row
change_octets (Gone store) = 3 ∷ big_bytes 2 store
change_octets (Forward add pattern) = 4 ∷ add_octet add ∷ pattern_octets pattern
change_octets (Types store add pattern) =
    5 ∷ big_bytes 2 store ++ add_octet add ∷ pattern_octets pattern
change_octets (Links store links) =
    6 ∷ big_bytes 2 store ++ big_bytes 2 (length links) ++ links_octets links
change_octets (Swap store link) = 7 ∷ big_bytes 2 store ++ link_octets link

-- changes one after another
abbrev pub entry_octets : List Change → List ℕ
entry_octets changes = flat_map change_octets changes

-- how many octets a change of this tag has, where it begins the text: 0 where there is no such tag
abbrev pub width_by : (tag : ℕ) → List ℕ → ℕ
width_by (suc zero) text = 9
width_by (suc (suc zero)) text = 30
width_by (suc (suc (suc zero))) text = 3
width_by (suc (suc (suc (suc zero)))) text = 7
width_by (suc (suc (suc (suc (suc zero))))) text = 9
width_by (suc (suc (suc (suc (suc (suc zero)))))) text = 5 + 6 * field 2 3 text
width_by (suc (suc (suc (suc (suc (suc (suc zero))))))) text = 9
width_by tag text = 0

-- the same of the change that begins the text
unfoldable pub width_in : List ℕ → ℕ
width_in text = width_by (slice_index text 0) text

abbrev pub add_in : (octet : ℕ) → Option Bool
add_in zero = Some false
add_in (suc zero) = Some true
add_in (suc (suc octet)) = None

-- the change of this tag that these octets are
abbrev pub change_by : (tag : ℕ) → List ℕ → Option Change
change_by (suc zero) octets = Some (Clock (field 6 1 octets) (field 2 7 octets))
change_by (suc (suc zero)) octets = option_map Put (row_in (drop 1 octets))
change_by (suc (suc (suc zero))) octets = Some (Gone (field 2 1 octets))
change_by (suc (suc (suc (suc zero)))) octets = do
  add ← add_in (slice_index octets 1)
  pattern ← spelled_pattern (drop 2 octets)
  Some (Forward add pattern)
change_by (suc (suc (suc (suc (suc zero))))) octets = do
  add ← add_in (slice_index octets 3)
  pattern ← spelled_pattern (drop 4 octets)
  Some (Types (field 2 1 octets) add pattern)
change_by (suc (suc (suc (suc (suc (suc zero)))))) octets =
    Some (Links (field 2 1 octets) (links_in (field 2 3 octets) (drop 5 octets)))
change_by (suc (suc (suc (suc (suc (suc (suc zero))))))) octets =
    Some (Swap (field 2 1 octets) (record { block = field 2 3 octets; first = field 4 5 octets }))
change_by tag octets = None

-- the change that begins the text, where it is whole
unfoldable pub change_in : List ℕ → Option Change
change_in text =
    if nat_le 1 (width_in text) && nat_le (width_in text) (length text)
    then change_by (slice_index text 0) (take (width_in text) text) else None

-- the changes of a text, by at most so many
unfoldable pub changes_from : (most : ℕ) → List ℕ → Option (List Change)
changes_from most [] = Some []
changes_from zero (octet ∷ text) = None
changes_from (suc most) (octet ∷ text) = do
  change ← change_in (octet ∷ text)
  changes ← changes_from most (drop (width_in (octet ∷ text)) (octet ∷ text))
  Some (change ∷ changes)

-- the changes that a text spells from its first octet to its last
unfoldable pub changes_in : List ℕ → Option (List Change)
changes_in text = changes_from (length text) text

-- a change can be written
abbrev pub FitsChange : Change → Type 0
FitsChange (Clock now reports) = (now < 2 ^ 48) × (reports < 2 ^ 16)
FitsChange (Put row) = FitsRow row
FitsChange (Gone store) = store < 2 ^ 16
FitsChange (Forward add pattern) = IsPattern pattern × HasPatternOctets pattern
FitsChange (Types store add pattern) =
    (store < 2 ^ 16) × IsPattern pattern × HasPatternOctets pattern
FitsChange (Links store links) =
    (store < 2 ^ 16) × (length links < 2 ^ 16) × All FitsLink links
FitsChange (Swap store link) = (store < 2 ^ 16) × FitsLink link

-- The same of a change in memory, whose other numbers have their types: its time has 48 bits, the
-- APID of its pattern eleven, and its links are few enough to be counted in two octets.
abbrev pub CanBeWritten : Change → Type 0
CanBeWritten (Clock now reports) = now < 2 ^ 48
CanBeWritten (Forward add pattern) = IsPattern pattern
CanBeWritten (Types store add pattern) = IsPattern pattern
CanBeWritten (Links store links) = length links < 2 ^ 16
CanBeWritten _ = Unit {0}
