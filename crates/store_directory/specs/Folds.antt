-- The changes of texts made one after another.
use Rattle.std.specs.Prelude.{◌≡◌, ◌<◌, ◌≤◌, ℕ, ◌+◌, false, List, [], ◌∷◌, length, take, drop, Option, Some, None}
use Rattle.store_directory.specs.Changes.{Change, apply, apply_all}
use Rattle.store_directory.specs.Checkpoints.{Checkpoint, checkpoint_in, is_lawful}
use Rattle.store_directory.specs.Directory.{Directory}
use Rattle.store_directory.specs.Entries.{change_in, changes_in, width_in}
use Rattle.store_directory.specs.Kept.{Kept, NeedsRoom, largest_after, largest_after_all}
use Rattle.store_directory.specs.Options.{◌>>=◌}
use Rattle.store_directory.specs.Slots.{largest_in}
use Rattle.store_directory.specs.declared.fault.FoldFault.{FoldFault}
use Rattle.store_directory.specs.declared.fault.FoldFault.TheVariants.{NoMemory, Spelling, Unfit}

-- the directory after the changes of an entry's text, where it spells some and each fits
unfoldable pub fold_entry : Directory → (entry : List ℕ) → Option Directory
fold_entry d entry = do
  changes ← changes_in entry
  apply_all d changes

-- the directory after entries
abbrev pub fold_entries : Directory → (entries : List (List ℕ)) → Option Directory
fold_entries d [] = Some d
fold_entries d (entry ∷ entries) = do
  next ← fold_entry d entry
  fold_entries next entries

-- the greatest sizes after these changes
abbrev pub SizesAfter : List Change → (old new : Kept) → Type 0
SizesAfter changes old new =
    (identifier : ℕ) → largest_in new.sizes identifier ≡ largest_after_all changes (largest_in old.sizes) identifier

-- The front of a text up to a place was made.
pub record Makes (text : List ℕ) (at : ℕ) (old new : Kept) : Type 0 where
  pub changes : List Change
  pub within : at ≤ length text
  pub spelled : changes_in (take at text) ≡ Some changes
  pub made : apply_all old.directory changes ≡ Some new.directory
  pub sizes : SizesAfter changes old new

-- The change at a place was made, and the next one begins behind it.
pub record MakesOne (text : List ℕ) (at next : ℕ) (old new : Kept) : Type 0 where
  pub change : Change
  pub spelled : change_in (drop at text) ≡ Some change
  pub made : apply old.directory change ≡ Some new.directory
  pub sizes : (identifier : ℕ) → largest_in new.sizes identifier ≡ largest_after change (largest_in old.sizes) identifier
  pub behind : next ≡ at + width_in (drop at text)
  pub later : at < next
  pub within : next ≤ length text

-- A change stands at a place and does not fit.
pub record IsUnfit (text : List ℕ) (at : ℕ) (d : Directory) : Type 0 where
  pub change : Change
  pub spelled : change_in (drop at text) ≡ Some change
  pub unfit : apply d change ≡ None

-- A change stands at a place, and a store needs more room for it than it has had.
pub record NeedsMore (text : List ℕ) (at : ℕ) (now : Kept) : Type 0 where
  pub change : Change
  pub spelled : change_in (drop at text) ≡ Some change
  pub needs : NeedsRoom change (largest_in now.sizes)

-- why the change at a place was not made
abbrev pub StopsHere : FoldFault → (text : List ℕ) → (at : ℕ) → Kept → Type 0
StopsHere (Spelling place) text at now = (place ≡ at) × (change_in (drop at text) ≡ None)
StopsHere (Unfit place) text at now = (place ≡ at) × IsUnfit text at now.directory
StopsHere NoMemory text at now = NeedsMore text at now

-- A fold stopped at a place: what stands before it was made, and the fault says why what stands there
-- was not.
pub record Stops (fault : FoldFault) (text : List ℕ) (old new : Kept) : Type 0 where
  pub at : ℕ
  pub some : at < length text
  pub made : fold_entry old.directory (take at text) ≡ Some new.directory
  pub why : StopsHere fault text at new

-- a checkpoint that is spelled and not lawful
abbrev pub IsUnlawful : Option Checkpoint → Type 0
IsUnlawful None = ⊥
IsUnlawful (Some checkpoint) = is_lawful checkpoint.directory ≡ false

-- Why the text of a checkpoint gives no directory: it spells none, or one that is not lawful.
abbrev pub IsNoCheckpoint : FoldFault → (blocks : ℕ) → (text : List ℕ) → Type 0
IsNoCheckpoint (Spelling place) blocks text = (place ≡ 0) × (checkpoint_in blocks text ≡ None)
IsNoCheckpoint (Unfit place) blocks text = (place ≡ 0) × IsUnlawful (checkpoint_in blocks text)
IsNoCheckpoint NoMemory blocks text = Unit {0}
