-- Worked examples of directories, changes and their octets, as equations that the check computes.
use Rattle.std.proofs.Common.{◌≡◌, ℕ, List, [], ◌∷◌, ◌++◌, length, replicate, drop, refl}
use Rattle.std.specs.Prelude.{Some, None}
use Rattle.control_defs.specs.PatternOctets.{spelled_pattern}
use Rattle.control_defs.specs.declared.patterns.Pattern.TheVariants.{Every}
use Rattle.record_view.specs.declared.link.Link.{Link}
use Rattle.store_directory.specs.declared.row.Row.{Row}
use Rattle.store_directory.specs.Changes.{Change, Clock, Links, Put, apply, apply_all}
use Rattle.store_directory.specs.Checkpoints.{checkpoint_in, checkpoint_octets, is_lawful, read_checkpoint}
use Rattle.store_directory.specs.Directory.{Directory, Listed, with_stores}
use Rattle.store_directory.specs.Entries.{change_in, changes_from, changes_in, entry_octets, width_in}
use Rattle.store_directory.specs.Format.{first_directory, first_row, first_store}
use Rattle.store_directory.specs.Rows.{row_in}

abbrev first_row_octets : List ℕ
first_row_octets = 0 ∷ 1 ∷ 0 ∷ 0 ∷ 0 ∷ 0 ∷ 64 ∷ 1 ∷ 3 ∷ replicate 20 0

-- the checkpoint of a format of 16 blocks

abbrev first_text : List ℕ
first_text = replicate 9 0 ++ 1 ∷ first_row_octets ++ 1 ∷ replicate 5 0 ++ replicate 2 0 ++ replicate 64 0

pub first_written : checkpoint_octets first_directory (replicate 16 0) ≡ first_text
unfolding checkpoint_octets
first_written = refl

pub first_long : length first_text ≡ 111
first_long = refl

pub first_read : read_checkpoint 16 first_text ≡ Some (record { directory = first_directory; wear = replicate 16 0 })
unfolding read_checkpoint checkpoint_in is_lawful row_in spelled_pattern apply
first_read = refl

-- the counts of one block too few, and one too many
pub counts_missing : read_checkpoint 17 first_text ≡ None
unfolding read_checkpoint checkpoint_in is_lawful row_in spelled_pattern apply
counts_missing = refl

pub counts_left : read_checkpoint 15 first_text ≡ None
unfolding read_checkpoint checkpoint_in is_lawful row_in spelled_pattern apply
counts_left = refl

-- An entry: the clock, a block with the first record, and the row that counts it.

abbrev counted : ℕ → Row
counted count = record first_row { count = count }

abbrev first_link : Link
first_link = record { block = 7; first = 0 }

abbrev first_changes : List Change
first_changes = Clock 16 1 ∷ Links 1 (first_link ∷ []) ∷ Put (counted 1) ∷ []

abbrev first_entry : List ℕ
first_entry =
    (1 ∷ 0 ∷ 0 ∷ 0 ∷ 0 ∷ 0 ∷ 16 ∷ 0 ∷ 1 ∷ [])
    ++ (6 ∷ 0 ∷ 1 ∷ 0 ∷ 1 ∷ 0 ∷ 7 ∷ 0 ∷ 0 ∷ 0 ∷ 0 ∷ [])
    ++ (2 ∷ 0 ∷ 1 ∷ 0 ∷ 0 ∷ 0 ∷ 0 ∷ 64 ∷ 1 ∷ 3 ∷ 0 ∷ 0 ∷ 0 ∷ 0 ∷ 0 ∷ 0 ∷ 0 ∷ 1 ∷ replicate 12 0)

pub entry_written : entry_octets first_changes ≡ first_entry
entry_written = refl

pub entry_read : changes_in first_entry ≡ Some first_changes
unfolding changes_in changes_from change_in width_in row_in
entry_read = refl

abbrev one_record : Listed
one_record = record { row = counted 1; patterns = Every ∷ []; links = first_link ∷ [] }

pub entry_applied : apply_all first_directory first_changes ≡ Some (record { now = 16; reports = 1; forward = []; stores = one_record ∷ [] })
unfolding apply
entry_applied = refl

-- without the links the row stands all the same, and with no record the links go
pub count_alone : apply first_directory (Put (counted 1)) ≡ Some (with_stores first_directory (record first_store { row = counted 1 } ∷ []))
unfolding apply
count_alone = refl

pub links_go : apply (with_stores first_directory (one_record ∷ [])) (Put first_row) ≡ Some first_directory
unfolding apply
links_go = refl

-- A link goes where the next one is at the first record or before it.

abbrev three_links : Listed
three_links = record {
  row = counted 9;
  patterns = [];
  links = record { block = 9; first = 0 } ∷ record { block = 8; first = 3 } ∷ record { block = 7; first = 6 } ∷ [];
}

abbrev moved : (first : ℕ) → Row
moved first = record first_row { first = first; count = 3 }

abbrev with_links : Row → List Link → Directory
with_links row links = with_stores first_directory (record { row = row; patterns = []; links = links } ∷ [])

pub none_trimmed : apply (with_stores first_directory (three_links ∷ [])) (Put (moved 2)) ≡ Some (with_links (moved 2) three_links.links)
unfolding apply
none_trimmed = refl

pub one_trimmed : apply (with_stores first_directory (three_links ∷ [])) (Put (moved 3)) ≡ Some (with_links (moved 3) (drop 1 three_links.links))
unfolding apply
one_trimmed = refl

pub two_trimmed : apply (with_stores first_directory (three_links ∷ [])) (Put (moved 7)) ≡ Some (with_links (moved 7) (drop 2 three_links.links))
unfolding apply
two_trimmed = refl

-- A smaller size that reserves fewer blocks than links are left does not fit: 3 blocks are reserved
-- for less than 240 pages.

abbrev many_links : List Link
many_links = three_links.links ++ record { block = 10; first = 9 } ∷ []

pub links_past_reservation : apply (with_stores first_directory (record three_links { row = record (counted 9) { size = 240 }; links = many_links } ∷ [])) (Put (counted 9)) ≡ None
unfolding apply
links_past_reservation = refl
