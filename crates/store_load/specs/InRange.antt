-- What holds of each store that was loaded: no number, place or length of it is out of range.
use Rattle.std.specs.Prelude.{◌≡◌, ◌≤◌, ⊤, ℕ, ◌+◌, false, true, if◌then◌else◌, List, [], ◌∷◌, length, take, drop}
use Rattle.std.specs.List.{All}
use Rattle.record_view.specs.Records.{number_after}
use Rattle.record_view.specs.declared.link.Link.{Link}
use Rattle.space_packet.specs.Charge.{charge_of}
use Rattle.store_directory.specs.Rows.{between, is_by}
use Rattle.store_directory.specs.declared.row.Row.{Row}
use Rattle.time_index.specs.TimeIndex.{TimeIndex, pages_of}
use Rattle.time_index.specs.declared.entry.Entry.{Entry}
use Rattle.store_load.specs.Extents.{end_of, last_of}
use Rattle.store_load.specs.Kept.{begins_well}
use Rattle.store_load.specs.declared.rule.Rule.{Rule}

-- the block of the link that holds a record number: the last one whose first number is at it or
-- before it
abbrev pub block_for : (number : ℕ) → Link → List Link → ℕ
block_for number link [] = link.block
block_for number link (next ∷ links) =
    if is_by next.first number then block_for number next links else link.block

-- Each entry lies in the block of the link that holds its number. The first one's is `number`.
abbrev pub AreInBlocks : (number : ℕ) → Link → List Link → List Entry → Type 0
AreInBlocks number link links [] = ⊤
AreInBlocks number link links (entry ∷ entries) =
    (entry.block ≡ block_for number link links) × AreInBlocks (number_after number) link links entries

abbrev pub AreInLinks : (number : ℕ) → List Link → List Entry → Type 0
AreInLinks number [] entries = entries ≡ []
AreInLinks number (link ∷ links) entries = AreInBlocks number link links entries

-- each link's first number is after that of the link before it
abbrev pub AreAscending : Link → List Link → Type 0
AreAscending link [] = ⊤
AreAscending link (next ∷ links) =
    (is_by next.first link.first ≡ false) × AreAscending next links

-- and the last one's is at the number behind the last record, or before it
abbrev pub AreInOrder : (end : ℕ) → List Link → Type 0
AreInOrder end [] = ⊤
AreInOrder end (link ∷ links) =
    AreAscending link links × (is_by (last_of link links).first end ≡ true)

-- the entries of a link, up to the next one, where the first entry has this number
abbrev pub entries_between : (number from to : ℕ) → List Entry → List Entry
entries_between number from to entries = take (between from to) (drop (between number from) entries)

-- The entries of each block use so many pages at least, and those of the last one exactly these.
abbrev pub AreFull : (least number used : ℕ) → Link → List Link → List Entry → Type 0
AreFull least number used link [] entries =
    used ≡ pages_of (drop (between number link.first) entries)
AreFull least number used link (next ∷ links) entries =
    (least ≤ pages_of (entries_between number link.first next.first entries))
    × AreFull least number used next links entries

-- So do those of each block behind the first one, which may have dead records too: the entries of an
-- only block use no more pages than these.
abbrev pub AreFilled : (least number used : ℕ) → List Link → List Entry → Type 0
AreFilled least number used [] entries = used ≡ 0
AreFilled least number used (link ∷ []) entries = pages_of entries ≤ used
AreFilled least number used (link ∷ next ∷ links) entries =
    AreFull least number used next links entries

-- An entry's place lies in one block, and its packet is no longer than the largest.
pub record IsPlaced (rule : Rule) (now : ℕ) (entry : Entry) : Type 0 where
  pub stamp : entry.stamp ≤ now
  pub shortest : 7 ≤ entry.length
  pub longest : entry.length ≤ rule.largest
  pub within : entry.page + charge_of entry.length ≤ 256

pub record IsInRange (rule : Rule) (now : ℕ) (row : Row) (links : List Link) (index : TimeIndex)
    (used : ℕ) : Type 0 where
  pub begins : begins_well row links ≡ true
  pub first : index.first ≡ row.first
  pub count : length index.entries ≡ row.count
  pub size : index.size ≡ row.size
  pub pages : pages_of index.entries ≤ row.size
  pub placed : All (IsPlaced rule now) index.entries
  pub blocks : AreInLinks row.first links index.entries
  pub order : AreInOrder (end_of row) links
  pub filled : AreFilled rule.least row.first used links index.entries
  pub used_within : used ≤ 256
