-- The table of small images, as equations that the check computes.
use Rattle.std.proofs.Common.{◌≡◌, ℕ, ◌-◌, List, [], ◌∷◌, ◌++◌, length, replicate, refl}
use Rattle.std.specs.Prelude.{Some, None}
use Rattle.board.specs.Flash.{blank}
use Rattle.commit_gate.specs.Entries.{area_of, entries_from, entry_at, length_in, octets_from, open_page, text_at}
use Rattle.control_defs.specs.PatternOctets.{spelled_pattern}
use Rattle.meta_journal.specs.Directories.{directory_in, directory_of}
use Rattle.meta_journal.proofs.DirectoryRows.{first_page, formatted, gate, image_of, root, rooted_by}
use Rattle.octet_fields.specs.Fields.{big_bytes}
use Rattle.pst_model.specs.Table.{Stored, Table, after_format, boot_store}
use Rattle.record_view.specs.Records.{record_at, records_from}
use Rattle.record_view.specs.declared.link.Link.{Link}
use Rattle.root_vote.specs.Roots.{choice_of, root_in}
use Rattle.store_directory.specs.Changes.{Change, Clock, Links, Put, apply}
use Rattle.store_directory.specs.Checkpoints.{checkpoint_in, is_lawful, read_checkpoint}
use Rattle.store_directory.specs.Directory.{Directory}
use Rattle.store_directory.specs.Entries.{change_in, changes_from, changes_in, entry_octets, width_in}
use Rattle.store_directory.specs.Folds.{fold_entry}
use Rattle.store_directory.specs.Format.{first_row, first_store}
use Rattle.store_directory.specs.Rows.{row_in}
use Rattle.store_directory.specs.Same.{same_directory}
use Rattle.store_load.specs.Extents.{all_records, read_extent}
use Rattle.store_load.specs.Kept.{kept_of}
use Rattle.store_load.proofs.KeptRows.{link, packet, page_of}
use Rattle.image_table.specs.Table.{table_by, table_of}

-- a page that spells an entry
abbrev entry_page : List Change → List ℕ
entry_page changes =
    let text = entry_octets changes in
    big_bytes 4 (length text) ++ text ++ replicate (252 - length text) 0

abbrev pub at_time : ℕ → Stored
at_time time = record { time = time; octets = packet }

-- a directory of one store, with so many records from this number on
abbrev pub listing : (first count : ℕ) → List Link → Directory
listing first count links = record {
  now = 5;
  reports = 1;
  forward = [];
  stores = record {
    row = record first_row { first = first; count = count };
    patterns = first_store.patterns;
    links = links;
  } ∷ [];
}

-- and its table
abbrev pub holding : List Stored → Table
holding packets = record {
  now = 5;
  reports = 1;
  forward = [];
  stores = record boot_store { packets = packets } ∷ [];
}

blank_image : table_of 16 (image_of []) ≡ None
unfolding table_of directory_of directory_in choice_of root_in blank
blank_image = refl

-- after a format
format_image : table_of 16 (image_of formatted) ≡ Some after_format
unfolding table_of table_by kept_of read_extent all_records records_from record_at directory_of directory_in choice_of root_in text_at entry_at entries_from octets_from area_of length_in open_page blank read_checkpoint checkpoint_in is_lawful row_in spelled_pattern apply fold_entry changes_in changes_from change_in width_in same_directory
format_image = refl

-- one record: an entry with the time, a link and the row, and the record's page
abbrev first_entry : List ℕ
first_entry = entry_page (Clock 5 1 ∷ Links 1 (link 7 0 ∷ []) ∷ Put (record first_row { count = 1 }) ∷ [])

one_record : table_of 16 (image_of ((769, gate) ∷ (770, first_entry) ∷ (1792, page_of 0 4) ∷ formatted)) ≡ Some (holding (at_time 4 ∷ []))
unfolding table_of table_by kept_of read_extent all_records records_from record_at directory_of directory_in choice_of root_in text_at entry_at entries_from octets_from area_of length_in open_page blank read_checkpoint checkpoint_in is_lawful row_in spelled_pattern apply fold_entry changes_in changes_from change_in width_in same_directory
one_record = refl

-- the record's page is blank
record_missing : table_of 16 (image_of ((769, gate) ∷ (770, first_entry) ∷ formatted)) ≡ None
unfolding table_of table_by kept_of read_extent all_records records_from record_at directory_of directory_in choice_of root_in text_at entry_at entries_from octets_from area_of length_in open_page blank read_checkpoint checkpoint_in is_lawful row_in spelled_pattern apply fold_entry changes_in changes_from change_in width_in same_directory
record_missing = refl

-- a gate that is shut hides the entry, and then the record is of no account
entry_hidden : table_of 16 (image_of ((770, first_entry) ∷ (1792, page_of 0 4) ∷ formatted)) ≡ Some after_format
unfolding table_of table_by kept_of read_extent all_records records_from record_at directory_of directory_in choice_of root_in text_at entry_at entries_from octets_from area_of length_in open_page blank read_checkpoint checkpoint_in is_lawful row_in spelled_pattern apply fold_entry changes_in changes_from change_in width_in same_directory
entry_hidden = refl

other_blocks : table_of 17 (image_of formatted) ≡ None
unfolding table_of directory_of directory_in choice_of root_in blank
other_blocks = refl

split_of_one : table_of 16 (image_of ((1280, first_page) ∷ rooted_by (root 1) blank (root 0))) ≡ Some after_format
unfolding table_of table_by kept_of read_extent all_records records_from record_at directory_of directory_in choice_of root_in text_at entry_at entries_from octets_from area_of length_in open_page blank read_checkpoint checkpoint_in is_lawful row_in spelled_pattern apply fold_entry changes_in changes_from change_in width_in same_directory
split_of_one = refl

-- Directories over data blocks alone. Two records, the first of which is dead.
two_records : table_by 16 (image_of ((1792, page_of 0 9) ∷ (1793, page_of 1 4) ∷ (1794, page_of 2 5) ∷ [])) (listing 1 2 (link 7 0 ∷ []))
    ≡ Some (holding (at_time 4 ∷ at_time 5 ∷ []))
unfolding table_by kept_of read_extent all_records records_from record_at octets_from blank is_lawful
two_records = refl

-- a block of the journal, one behind the device, and one block twice
journal_block : table_by 16 (image_of ((1536, page_of 0 4) ∷ [])) (listing 0 1 (link 6 0 ∷ [])) ≡ None
unfolding table_by kept_of read_extent all_records records_from record_at octets_from blank is_lawful
journal_block = refl

block_behind : table_by 16 (image_of ((4096, page_of 0 4) ∷ [])) (listing 0 1 (link 16 0 ∷ [])) ≡ None
unfolding table_by kept_of read_extent all_records records_from record_at octets_from blank is_lawful
block_behind = refl

block_twice : table_by 16 (image_of ((1792, page_of 0 4) ∷ (1793, page_of 1 4) ∷ [])) (listing 0 2 (link 7 0 ∷ link 7 0 ∷ [])) ≡ None
unfolding table_by kept_of read_extent all_records records_from record_at octets_from blank is_lawful
block_twice = refl

-- a block with 239 pages in use or fewer, and another one behind it
half_empty : table_by 16 (image_of ((1792, page_of 0 4) ∷ (2048, page_of 1 4) ∷ [])) (listing 0 2 (link 7 0 ∷ link 8 1 ∷ [])) ≡ None
unfolding table_by kept_of read_extent all_records records_from record_at octets_from blank is_lawful
half_empty = refl

-- a store of 64 pages reserves three blocks, and eight are no one's
abbrev empty_listing : Directory
empty_listing = listing 0 0 []

blocks_for_all : table_by 11 (image_of []) empty_listing ≡ Some (holding [])
unfolding table_by kept_of is_lawful
blocks_for_all = refl

blocks_too_few : table_by 10 (image_of []) empty_listing ≡ None
unfolding table_by kept_of is_lawful
blocks_too_few = refl
