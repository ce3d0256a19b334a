-- What stores keep on small images, and whether they may share a device, as equations that the check
-- computes.
use Rattle.std.proofs.Common.{◌≡◌, ℕ, ◌==◌, true, false, List, [], ◌∷◌, refl}
use Rattle.std.specs.Prelude.{Some, None, take, drop, replicate, if◌then◌else◌}
use Rattle.board.specs.Flash.{blank}
use Rattle.commit_gate.specs.Entries.{octets_from}
use Rattle.record_view.specs.Records.{Meaning, record_at, records_from}
use Rattle.record_view.specs.Written.{record_pages}
use Rattle.record_view.specs.declared.link.Link.{Link}
use Rattle.store_directory.specs.Directory.{Listed}
use Rattle.store_directory.specs.Format.{first_row, first_store}
use Rattle.store_directory.specs.declared.row.Row.{Row}
use Rattle.store_load.specs.Claims.{may_share}
use Rattle.store_load.specs.Extents.{all_records, read_extent}
use Rattle.store_load.specs.Kept.{kept_of}
use Rattle.store_load.specs.declared.rule.Rule.{Rule}

-- an image of blank pages but for these
abbrev pub image_of : List (ℕ × List ℕ) → ℕ → List ℕ
image_of [] p = blank
image_of (page ∷ pages) p = if p == page.0 then page.1 else image_of pages p

-- a packet of 8 octets, the page of its record, and the record
abbrev pub packet : List ℕ
packet = 0 ∷ 100 ∷ 192 ∷ 0 ∷ 0 ∷ 1 ∷ 17 ∷ 18 ∷ []

abbrev pub page_of : (number stamp : ℕ) → List ℕ
page_of number stamp = record_pages number stamp packet

abbrev record_of : (number stamp : ℕ) → Meaning
record_of number stamp = record { number = number; stamp = stamp; packet = packet }

abbrev pub link : (block first : ℕ) → Link
link block first = record { block = block; first = first }

-- a row of a store of 64 pages with so many records from this number on
abbrev pub row_of : (first count : ℕ) → Row
row_of first count = record first_row { first = first; count = count }

-- blocks with so many pages in use, and packets of at most so many octets
abbrev rule_of : (least largest : ℕ) → Rule
rule_of least largest = record { least = least; largest = largest }

-- Two records behind a dead one.
two_records : kept_of (rule_of 240 4096) (image_of ((1792, page_of 0 9) ∷ (1793, page_of 1 4) ∷ (1794, page_of 2 5) ∷ [])) 5 (row_of 1 2) (link 7 0 ∷ []) ≡ Some (record_of 1 4 ∷ record_of 2 5 ∷ [])
unfolding kept_of read_extent all_records records_from record_at octets_from blank
two_records = refl

-- Numbers go on from 4,294,967,295 to 0.
numbers_go_round : kept_of (rule_of 240 4096) (image_of ((1792, page_of 4294967295 4) ∷ (1793, page_of 0 5) ∷ [])) 5 (row_of 4294967295 2) (link 7 4294967295 ∷ []) ≡ Some (record_of 4294967295 4 ∷ record_of 0 5 ∷ [])
unfolding kept_of read_extent all_records records_from record_at octets_from blank
numbers_go_round = refl

-- The first record is in the second of two blocks.
front_in_the_second : kept_of (rule_of 1 4096) (image_of ((1792, page_of 0 4) ∷ (2048, page_of 1 4) ∷ [])) 5 (row_of 1 1) (link 7 0 ∷ link 8 1 ∷ []) ≡ None
unfolding kept_of read_extent all_records records_from record_at octets_from blank
front_in_the_second = refl

-- A full first block and a second one.
second_block : kept_of (rule_of 1 4096) (image_of ((1792, page_of 0 4) ∷ (2048, page_of 1 5) ∷ [])) 5 (row_of 0 2) (link 7 0 ∷ link 8 1 ∷ []) ≡ Some (record_of 0 4 ∷ record_of 1 5 ∷ [])
unfolding kept_of read_extent all_records records_from record_at octets_from blank
second_block = refl

-- Another number than the row says.
other_number : kept_of (rule_of 240 4096) (image_of ((1792, page_of 1 4) ∷ [])) 5 (row_of 0 1) (link 7 0 ∷ []) ≡ None
unfolding kept_of read_extent all_records records_from record_at octets_from blank
other_number = refl

-- One record fewer than the row counts.
too_few : kept_of (rule_of 240 4096) (image_of ((1792, page_of 0 4) ∷ [])) 5 (row_of 0 2) (link 7 0 ∷ []) ≡ None
unfolding kept_of read_extent all_records records_from record_at octets_from blank
too_few = refl

-- More records than the size has pages.
too_many : kept_of (rule_of 240 4096) (image_of []) 5 (row_of 0 65) (link 7 0 ∷ []) ≡ None
unfolding kept_of read_extent all_records records_from record_at octets_from blank
too_many = refl

-- A packet of 241 octets, whose record has two pages, in a store of two pages, and of one.
abbrev pub wide_packet : List ℕ
wide_packet = 0 ∷ 100 ∷ 192 ∷ 0 ∷ 0 ∷ 234 ∷ replicate 235 7

abbrev pub wide_pages : List (ℕ × List ℕ)
wide_pages = (1792, take 256 (record_pages 0 4 wide_packet)) ∷ (1793, drop 256 (record_pages 0 4 wide_packet)) ∷ []

abbrev pub sized : (pages : ℕ) → Row
sized pages = record (row_of 0 1) { size = pages }

just_full : kept_of (rule_of 240 4096) (image_of wide_pages) 5 (sized 2) (link 7 0 ∷ []) ≡ Some (record { number = 0; stamp = 4; packet = wide_packet } ∷ [])
unfolding kept_of read_extent all_records records_from record_at octets_from blank
just_full = refl

too_full : kept_of (rule_of 240 4096) (image_of wide_pages) 5 (sized 1) (link 7 0 ∷ []) ≡ None
unfolding kept_of read_extent all_records records_from record_at octets_from blank
too_full = refl

-- The first block begins behind the first record.
begins_late : kept_of (rule_of 240 4096) (image_of ((1792, page_of 1 4) ∷ [])) 5 (row_of 0 1) (link 7 1 ∷ []) ≡ None
unfolding kept_of read_extent all_records records_from record_at octets_from blank
begins_late = refl

-- A block and no record.
no_record : kept_of (rule_of 240 4096) (image_of []) 5 (row_of 0 0) (link 7 0 ∷ []) ≡ None
unfolding kept_of read_extent all_records records_from record_at octets_from blank
no_record = refl

-- A record and no block.
no_block : kept_of (rule_of 240 4096) (image_of ((1792, page_of 0 4) ∷ [])) 5 (row_of 0 1) [] ≡ None
unfolding kept_of read_extent all_records records_from record_at octets_from blank
no_block = refl

-- The first of two blocks has fewer pages in use than it must have.
half_empty : kept_of (rule_of 240 4096) (image_of ((1792, page_of 0 4) ∷ (2048, page_of 1 4) ∷ [])) 5 (row_of 0 2) (link 7 0 ∷ link 8 1 ∷ []) ≡ None
unfolding kept_of read_extent all_records records_from record_at octets_from blank
half_empty = refl

-- A stamp that falls.
stamps_fall : kept_of (rule_of 240 4096) (image_of ((1792, page_of 0 5) ∷ (1793, page_of 1 4) ∷ [])) 5 (row_of 0 2) (link 7 0 ∷ []) ≡ None
unfolding kept_of read_extent all_records records_from record_at octets_from blank
stamps_fall = refl

-- A stamp past the time.
stamp_to_come : kept_of (rule_of 240 4096) (image_of ((1792, page_of 0 6) ∷ [])) 5 (row_of 0 1) (link 7 0 ∷ []) ≡ None
unfolding kept_of read_extent all_records records_from record_at octets_from blank
stamp_to_come = refl

-- A packet longer than the largest.
too_long : kept_of (rule_of 240 7) (image_of ((1792, page_of 0 4) ∷ [])) 5 (row_of 0 1) (link 7 0 ∷ []) ≡ None
unfolding kept_of read_extent all_records records_from record_at octets_from blank
too_long = refl

-- A store of the size 64 with these links.
abbrev sharing : List Link → Listed
sharing links = record { row = first_row; patterns = first_store.patterns; links = links }

-- It reserves three blocks, and eight are no one's.
three_of_eleven : may_share 240 11 (sharing [] ∷ []) ≡ true
three_of_eleven = refl

three_of_ten : may_share 240 10 (sharing [] ∷ []) ≡ false
three_of_ten = refl

-- Blocks of the journal and behind the device, a block that one store or two have twice, and more
-- blocks than are reserved.
data_blocks : may_share 240 16 (sharing (link 7 0 ∷ link 15 9 ∷ []) ∷ []) ≡ true
data_blocks = refl

journal_block : may_share 240 16 (sharing (link 6 0 ∷ []) ∷ []) ≡ false
journal_block = refl

block_behind : may_share 240 16 (sharing (link 16 0 ∷ []) ∷ []) ≡ false
block_behind = refl

block_twice : may_share 240 16 (sharing (link 7 0 ∷ link 7 9 ∷ []) ∷ []) ≡ false
block_twice = refl

block_shared : may_share 240 16 (sharing (link 7 0 ∷ []) ∷ sharing (link 7 0 ∷ []) ∷ []) ≡ false
block_shared = refl

more_than_reserved : may_share 240 16 (sharing (link 7 0 ∷ link 8 9 ∷ link 9 9 ∷ link 10 9 ∷ []) ∷ []) ≡ false
more_than_reserved = refl
