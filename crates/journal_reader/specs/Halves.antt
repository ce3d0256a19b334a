-- What is read of the halves.
use Rattle.std.specs.Prelude.{ℕ, List, Option, Some, None, option_map}
use Rattle.std.specs.Prelude.{Bool, true, false, Result, Ok, Err}
use Rattle.commit_gate.specs.Entries.{Damaged, End, Entry, EntryAt, text_at}
use Rattle.meta_journal.specs.Directories.{directory_in, half_area}
use Rattle.root_vote.specs.declared.votes.Choice.{Choice}
use Rattle.root_vote.specs.declared.votes.Choice.TheVariants.{Agreed, Nobody, Split}
use Rattle.store_directory.specs.Checkpoints.{read_checkpoint}
use Rattle.store_directory.specs.Directory.{Directory}
use Rattle.store_directory.specs.Kept.{Kept}
use Rattle.store_directory.specs.Options.{◌>>=◌, given}
use Rattle.store_directory.specs.Same.{same_directory}

-- the erase counts that the checkpoint of a half spells
abbrev pub counts_at : (blocks : ℕ) → EntryAt → Option (List ℕ)
counts_at blocks (Entry text next) =
    option_map (λ checkpoint. checkpoint.wear) (read_checkpoint blocks text)
counts_at blocks End = None
counts_at blocks (Damaged length) = None

abbrev pub counts_of_half : (blocks : ℕ) → (area : ℕ → List ℕ) → Option (List ℕ)
counts_of_half blocks area = counts_at blocks (text_at 20476 area 0)

-- the directory of two halves that are to hold the same
abbrev pub both_halves : (first second : Option Directory) → Option Directory
both_halves first second = do
  d ← first
  other ← second
  _ ← given (same_directory d other)
  Some d

-- the directory that was read
abbrev pub directory_read : Option Kept → Option Directory
directory_read found = option_map (λ d. d.directory) found

-- the same behind the root by which it was chosen
abbrev pub chosen_read : {A : Type 0} → Option (A × Kept) → Option Directory
chosen_read found = option_map (λ pair. pair.1.directory) found

-- what is read of the halves of an image
abbrev pub halves_in : (blocks : ℕ) → (image : ℕ → List ℕ) → (half : ℕ) → Option Directory
halves_in blocks image half = directory_in blocks (half_area half image)

-- a directory, where a test holds
abbrev pub directory_if : Bool → Directory → Option Directory
directory_if true d = Some d
directory_if false d = None

-- what was read, behind a root
abbrev pub behind_root : {A B E : Type 0} → A → Result (Option B) E → Result (Option (A × B)) E
behind_root root (Ok (Some d)) = Ok (Some (root, d))
behind_root root (Ok None) = Ok None
behind_root root (Err stop) = Err stop

-- the pages of the halves that count by a choice of the roots
abbrev pub half_reads : Choice → ℕ
half_reads (Agreed root) = 512
half_reads (Split first last) = 1024
half_reads Nobody = 0
