-- The records of a store along its links.
use Rattle.std.specs.Prelude.{◌≡◌, ⊤, ℕ, ◌+◌, ◌%◌, ◌==◌, List, [], ◌∷◌, ◌++◌, length, Option, Some}
use Rattle.space_packet.specs.Charge.{charge_of}
use Rattle.chain_log.specs.Pages.{block_octets}
use Rattle.record_view.specs.Records.{Meaning, records_from}
use Rattle.record_view.specs.declared.link.Link.{Link}
use Rattle.store_directory.specs.Options.{◌>>=◌, given}
use Rattle.store_directory.specs.Rows.{between}
use Rattle.store_directory.specs.declared.row.Row.{Row}

-- as many records as asked for, the first with this number and at this page, if the block spells all
-- of them
unfoldable pub all_records : (block : List ℕ) → (count number page : ℕ) → Option (List Meaning)
all_records block count number page = do
  _ ← given (length (records_from count block number page) == count)
  Some (records_from count block number page)

-- a block's part of a store: so many records, the first of which has this number
pub record Extent : Type 0 where
  pub block : ℕ
  pub first : ℕ
  pub count : ℕ

-- the records of an extent, if its block spells all of them
unfoldable pub read_extent : (image : ℕ → List ℕ) → Extent → Option (List Meaning)
read_extent image extent = all_records (block_octets image extent.block) extent.count extent.first 0

-- The octets of some block spell these records, as many as the extent has.
pub record IsGiven (extent : Extent) (records : List Meaning) : Type 0 where
  pub block : List ℕ
  pub whole : length block ≡ 65536
  pub spelled : all_records block extent.count extent.first 0 ≡ Some records

-- of each extent
abbrev pub AreGiven : List Extent → List (List Meaning) → Type 0
AreGiven [] [] = ⊤
AreGiven [] (records ∷ reads) = ⊥
AreGiven (extent ∷ extents) [] = ⊥
AreGiven (extent ∷ extents) (records ∷ reads) = IsGiven extent records × AreGiven extents reads

-- the extent of a link, whose records end before a number
abbrev pub extent_to : (end : ℕ) → Link → Extent
extent_to end link =
    record { block = link.block; first = link.first; count = between link.first end }

-- The extents of links: each block has the records up to the first of the next one, and the last one
-- those before the number `end`.
abbrev pub extents_from : (end : ℕ) → Link → List Link → List Extent
extents_from end link [] = extent_to end link ∷ []
extents_from end link (next ∷ links) = extent_to next.first link ∷ extents_from end next links

abbrev pub extents_to : (end : ℕ) → List Link → List Extent
extents_to end [] = []
extents_to end (link ∷ links) = extents_from end link links

-- the number behind a store's last record
abbrev pub end_of : Row → ℕ
end_of row = (row.first + row.count) % 4294967296

abbrev pub extents_of : Row → List Link → List Extent
extents_of row links = extents_to (end_of row) links

-- the pages that records take
abbrev pub pages_in : List Meaning → ℕ
pages_in [] = 0
pages_in (meaning ∷ records) = charge_of (length meaning.packet) + pages_in records

-- the records of all extents, one after another
abbrev pub joined : List (List Meaning) → List Meaning
joined [] = []
joined (records ∷ rest) = records ++ joined rest

-- the last link, and the records of the last extent
abbrev pub last_of : Link → List Link → Link
last_of link [] = link
last_of link (next ∷ links) = last_of next links

abbrev pub last_read : List (List Meaning) → List Meaning
last_read [] = []
last_read (records ∷ []) = records
last_read (records ∷ next ∷ rest) = last_read (next ∷ rest)

-- one record more in the last extent
abbrev pub with_record : List (List Meaning) → Meaning → List (List Meaning)
with_record [] meaning = []
with_record (records ∷ []) meaning = (records ++ meaning ∷ []) ∷ []
with_record (records ∷ next ∷ rest) meaning = records ∷ with_record (next ∷ rest) meaning
