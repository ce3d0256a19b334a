-- The directory that an image holds.
use Rattle.std.specs.Prelude.{◌≡◌, ℕ, ◌+◌, ◌*◌, ◌<◌, Bool, true, false, ◌&&◌, ◌==◌, List, Option}
use Rattle.std.specs.Prelude.{Some, None}
use Rattle.board.specs.Flash.{Flash}
use Rattle.commit_gate.specs.Entries.{Damaged, End, Entry, EntryAt, area_of, entries_from, text_at}
use Rattle.root_vote.specs.declared.root.Root.{Root}
use Rattle.root_vote.specs.declared.votes.Choice.{Choice}
use Rattle.root_vote.specs.declared.votes.Choice.TheVariants.{Agreed, Nobody, Split}
use Rattle.root_vote.specs.Roots.{choice_of}
use Rattle.store_directory.specs.Checkpoints.{read_checkpoint}
use Rattle.store_directory.specs.Directory.{Directory}
use Rattle.store_directory.specs.Folds.{fold_entries}
use Rattle.store_directory.specs.Options.{◌>>=◌, given}
use Rattle.store_directory.specs.Same.{same_directory}
use Rattle.meta_journal.specs.Halves.{IsFirmHalf, half_base, half_of}

-- the directory of a checkpoint's text with entries folded over it
abbrev pub directory_by : (blocks : ℕ) → (text : List ℕ) → (entries : List (List ℕ))
    → Option Directory
directory_by blocks text entries = do
  checkpoint ← read_checkpoint blocks text
  fold_entries checkpoint.directory entries

-- a checkpoint at the front of a half, with the entries behind it
abbrev pub directory_at : (blocks : ℕ) → EntryAt → (ℕ → Option (List (List ℕ))) → Option Directory
directory_at blocks (Entry text next) behind = do
  entries ← behind next
  directory_by blocks text entries
directory_at blocks End behind = None
directory_at blocks (Damaged length) behind = None

-- The directory of a half: a checkpoint of 1 to 20,476 octets, and the entries behind it.
unfoldable pub directory_in : (blocks : ℕ) → (area : ℕ → List ℕ) → Option Directory
directory_in blocks area =
    directory_at blocks (text_at 20476 area 0) (λ next. entries_from 512 area next)

-- the pages of a half of an image
abbrev pub half_area : (half : ℕ) → (ℕ → List ℕ) → ℕ → List ℕ
half_area half image = area_of (half_base half) image

-- a root of this format and of a device of so many blocks
abbrev pub is_own : (blocks : ℕ) → Root → Bool
is_own blocks root = root.version == 1 && root.blocks == blocks

-- The directory by a choice of the roots: of the half that they agree on, or of both halves, where
-- these are the same directory.
abbrev pub chosen : (blocks : ℕ) → Choice → (half : ℕ → Option Directory) → Option Directory
chosen blocks (Agreed root) half = do
  _ ← given (is_own blocks root)
  half (half_of root)
chosen blocks (Split first last) half = do
  _ ← given (is_own blocks first && is_own blocks last)
  d ← half 0
  other ← half 1
  _ ← given (same_directory d other)
  Some d
chosen blocks Nobody half = None

-- the directory that an image of a device of so many blocks holds
unfoldable pub directory_of : (blocks : ℕ) → (image : ℕ → List ℕ) → Option Directory
directory_of blocks image =
    chosen blocks (choice_of image) (λ half. directory_in blocks (half_area half image))

-- whether a half counts by a choice of the roots
abbrev pub counts : Choice → (half : ℕ) → Bool
counts (Agreed root) half = half == half_of root
counts (Split first last) half = true
counts Nobody half = false

-- Two images agree on the root pages, and on the halves that count.
pub record SameJournal (image other : ℕ → List ℕ) : Type 0 where
  pub roots : (block : ℕ) → block < 3 → other (256 * block) ≡ image (256 * block)
  pub halves : (half q : ℕ) → half < 2 → counts (choice_of image) half ≡ true → q < 512
      → other (half_base half + q) ≡ image (half_base half + q)

-- A half of a flash holds a directory, and a stop leaves it.
pub record HoldsHalf (blocks half : ℕ) (d : Directory) (flash : Flash) : Type 0 where
  pub held : directory_in blocks (half_area half flash.content) ≡ Some d
  pub firm_half : IsFirmHalf half flash

-- each half that counts is firm
abbrev pub FirmHalves : Flash → Type 0
FirmHalves flash = (half : ℕ) → half < 2 → counts (choice_of flash.content) half ≡ true
    → IsFirmHalf half flash
