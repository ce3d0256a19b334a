-- The directory of small images, as equations that the check computes.
use Rattle.std.proofs.Common.{◌≡◌, ℕ, ◌==◌, List, [], ◌∷◌, ◌++◌, replicate, refl}
use Rattle.std.specs.Prelude.{Some, None, if◌then◌else◌}
use Rattle.board.specs.Flash.{blank}
use Rattle.commit_gate.specs.Entries.{area_of, entries_from, entry_at, length_in, octets_from, open_page, text_at}
use Rattle.control_defs.specs.PatternOctets.{spelled_pattern}
use Rattle.root_vote.specs.Roots.{choice_of, root_in}
use Rattle.store_directory.specs.Changes.{apply}
use Rattle.store_directory.specs.Checkpoints.{checkpoint_in, is_lawful, read_checkpoint}
use Rattle.store_directory.specs.Directory.{Directory}
use Rattle.store_directory.specs.Entries.{change_in, changes_from, changes_in, width_in}
use Rattle.store_directory.specs.Folds.{fold_entry}
use Rattle.store_directory.specs.Format.{first_directory}
use Rattle.store_directory.specs.Rows.{row_in}
use Rattle.store_directory.specs.Same.{same_directory}
use Rattle.meta_journal.specs.Directories.{directory_in, directory_of}

-- an image of blank pages but for these
abbrev pub image_of : List (ℕ × List ℕ) → ℕ → List ℕ
image_of [] p = blank
image_of (page ∷ pages) p = if p == page.0 then page.1 else image_of pages p

-- PUSSTORE, the version, the blocks of the device, the generation, and what stands behind these
abbrev root_with : (version blocks generation behind : ℕ) → List ℕ
root_with version blocks generation behind =
    80 ∷ 85 ∷ 83 ∷ 83 ∷ 84 ∷ 79 ∷ 82 ∷ 69 ∷ version ∷ 0 ∷ 0 ∷ 0 ∷ blocks
    ∷ replicate 7 0 ++ generation ∷ behind ∷ replicate 234 0

abbrev pub root : (generation : ℕ) → List ℕ
root generation = root_with 1 16 generation 0

-- the checkpoint of a format of 16 blocks: its length, the head, the store with its pattern, the counts
abbrev pub first_page : List ℕ
first_page =
    (0 ∷ 0 ∷ 0 ∷ 111 ∷ replicate 9 0)
    ++ (1 ∷ 0 ∷ 1 ∷ 0 ∷ 0 ∷ 0 ∷ 0 ∷ 64 ∷ 1 ∷ 3 ∷ replicate 20 0) ++ 1 ∷ replicate 212 0

-- a page of 256 octets 0x5a, and one that spells an entry: now 16, one report
abbrev pub gate : List ℕ
gate = replicate 256 90

abbrev clock : List ℕ
clock = 0 ∷ 0 ∷ 0 ∷ 9 ∷ 1 ∷ 0 ∷ 0 ∷ 0 ∷ 0 ∷ 0 ∷ 16 ∷ 0 ∷ 1 ∷ replicate 243 0

abbrev later_directory : Directory
later_directory = record first_directory { now = 16; reports = 1 }

-- after a format, with roots in these pages
abbrev pub rooted_by : (first middle last : List ℕ) → List (ℕ × List ℕ)
rooted_by first middle last = (0, first) ∷ (256, middle) ∷ (512, last) ∷ (768, first_page) ∷ []

abbrev pub formatted : List (ℕ × List ℕ)
formatted = rooted_by (root 0) (root 0) (root 0)

-- a blank device
blank_image : directory_of 16 (image_of ([])) ≡ None
unfolding directory_of directory_in choice_of root_in text_at entry_at entries_from octets_from area_of length_in open_page blank read_checkpoint checkpoint_in is_lawful row_in spelled_pattern apply fold_entry changes_in changes_from change_in width_in same_directory
blank_image = refl

-- after a format
format_image : directory_of 16 (image_of (formatted)) ≡ Some first_directory
unfolding directory_of directory_in choice_of root_in text_at entry_at entries_from octets_from area_of length_in open_page blank read_checkpoint checkpoint_in is_lawful row_in spelled_pattern apply fold_entry changes_in changes_from change_in width_in same_directory
format_image = refl

-- of another device
other_blocks : directory_of 17 (image_of (formatted)) ≡ None
unfolding directory_of directory_in choice_of root_in text_at entry_at entries_from octets_from area_of length_in open_page blank read_checkpoint checkpoint_in is_lawful row_in spelled_pattern apply fold_entry changes_in changes_from change_in width_in same_directory
other_blocks = refl

-- roots of another version
other_version : directory_of 16 (image_of (rooted_by (root_with 2 16 0 0) (root_with 2 16 0 0) (root_with 2 16 0 0))) ≡ None
unfolding directory_of directory_in choice_of root_in text_at entry_at entries_from octets_from area_of length_in open_page blank read_checkpoint checkpoint_in is_lawful row_in spelled_pattern apply fold_entry changes_in changes_from change_in width_in same_directory
other_version = refl

-- an octet behind the numbers of two roots, and of one
two_roots_spoiled : directory_of 16 (image_of (rooted_by (root_with 1 16 0 1) (root_with 1 16 0 1) (root 0))) ≡ None
unfolding directory_of directory_in choice_of root_in text_at entry_at entries_from octets_from area_of length_in open_page blank read_checkpoint checkpoint_in is_lawful row_in spelled_pattern apply fold_entry changes_in changes_from change_in width_in same_directory
two_roots_spoiled = refl

one_root_spoiled : directory_of 16 (image_of (rooted_by (root 0) (root_with 1 16 0 1) (root 0))) ≡ Some first_directory
unfolding directory_of directory_in choice_of root_in text_at entry_at entries_from octets_from area_of length_in open_page blank read_checkpoint checkpoint_in is_lawful row_in spelled_pattern apply fold_entry changes_in changes_from change_in width_in same_directory
one_root_spoiled = refl

-- the roots name half 1, which is blank
other_half : directory_of 16 (image_of (rooted_by (root 1) (root 1) (root 1))) ≡ None
unfolding directory_of directory_in choice_of root_in text_at entry_at entries_from octets_from area_of length_in open_page blank read_checkpoint checkpoint_in is_lawful row_in spelled_pattern apply fold_entry changes_in changes_from change_in width_in same_directory
other_half = refl

-- one entry
one_entry : directory_of 16 (image_of ((769, gate) ∷ (770, clock) ∷ formatted)) ≡ Some later_directory
unfolding directory_of directory_in choice_of root_in text_at entry_at entries_from octets_from area_of length_in open_page blank read_checkpoint checkpoint_in is_lawful row_in spelled_pattern apply fold_entry changes_in changes_from change_in width_in same_directory
one_entry = refl

-- a gate that is not open
shut_gate : directory_of 16 (image_of ((769, replicate 255 90 ++ 91 ∷ []) ∷ (770, clock) ∷ formatted)) ≡ Some first_directory
unfolding directory_of directory_in choice_of root_in text_at entry_at entries_from octets_from area_of length_in open_page blank read_checkpoint checkpoint_in is_lawful row_in spelled_pattern apply fold_entry changes_in changes_from change_in width_in same_directory
shut_gate = refl

-- an open gate with no lawful length behind it
damaged_half : directory_of 16 (image_of ((769, gate) ∷ formatted)) ≡ None
unfolding directory_of directory_in choice_of root_in text_at entry_at entries_from octets_from area_of length_in open_page blank read_checkpoint checkpoint_in is_lawful row_in spelled_pattern apply fold_entry changes_in changes_from change_in width_in same_directory
damaged_half = refl

-- an entry that spells no change
no_change : directory_of 16 (image_of ((769, gate) ∷ (770, 0 ∷ 0 ∷ 0 ∷ 1 ∷ replicate 252 0) ∷ formatted)) ≡ None
unfolding directory_of directory_in choice_of root_in text_at entry_at entries_from octets_from area_of length_in open_page blank read_checkpoint checkpoint_in is_lawful row_in spelled_pattern apply fold_entry changes_in changes_from change_in width_in same_directory
no_change = refl

-- a split, where both halves hold one directory, and where they hold two
split_of_one : directory_of 16 (image_of ((1280, first_page) ∷ rooted_by (root 1) blank (root 0))) ≡ Some first_directory
unfolding directory_of directory_in choice_of root_in text_at entry_at entries_from octets_from area_of length_in open_page blank read_checkpoint checkpoint_in is_lawful row_in spelled_pattern apply fold_entry changes_in changes_from change_in width_in same_directory
split_of_one = refl

split_of_two : directory_of 16 (image_of ((1280, first_page) ∷ (1281, gate) ∷ (1282, clock) ∷ rooted_by (root 1) blank (root 0))) ≡ None
unfolding directory_of directory_in choice_of root_in text_at entry_at entries_from octets_from area_of length_in open_page blank read_checkpoint checkpoint_in is_lawful row_in spelled_pattern apply fold_entry changes_in changes_from change_in width_in same_directory
split_of_two = refl

split_of_a_half : directory_of 16 (image_of (rooted_by (root 1) blank (root 0))) ≡ None
unfolding directory_of directory_in choice_of root_in text_at entry_at entries_from octets_from area_of length_in open_page blank read_checkpoint checkpoint_in is_lawful row_in spelled_pattern apply fold_entry changes_in changes_from change_in width_in same_directory
split_of_a_half = refl

-- what a half holds that does not count is of no account
half_not_read : directory_of 16 (image_of ((1280, first_page) ∷ (1281, gate) ∷ (1282, clock) ∷ formatted)) ≡ Some first_directory
unfolding directory_of directory_in choice_of root_in text_at entry_at entries_from octets_from area_of length_in open_page blank read_checkpoint checkpoint_in is_lawful row_in spelled_pattern apply fold_entry changes_in changes_from change_in width_in same_directory
half_not_read = refl

-- no two roots are one, and the last is none
nobody : directory_of 16 (image_of (rooted_by (root 1) (root 0) blank)) ≡ None
unfolding directory_of directory_in choice_of root_in text_at entry_at entries_from octets_from area_of length_in open_page blank read_checkpoint checkpoint_in is_lawful row_in spelled_pattern apply fold_entry changes_in changes_from change_in width_in same_directory
nobody = refl
