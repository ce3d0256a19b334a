-- What a directory in memory is: the directory, and how much room its stores have.
use Rattle.std.specs.Prelude.{◌<◌, ◌^◌, ℕ, ◌==◌, if◌then◌else◌, List, [], ◌∷◌}
use Rattle.control_defs.specs.Patterns.{IsPattern}
use Rattle.store_directory.specs.Changes.{Change, Clock, Forward, Gone, Links, Put, Swap, Types}
use Rattle.store_directory.specs.Directory.{Directory}
use Rattle.store_directory.specs.Slots.{greater}
use Rattle.store_directory.specs.declared.change.Change as declared
use Rattle.store_directory.specs.declared.change.Change.TheVariants as variants

-- a directory, and identifiers, each with the greatest size that its store has had
pub record Kept : Type 0 where
  pub directory : Directory
  pub open directory use *
  pub sizes : List (ℕ × ℕ)

-- what a change means
abbrev pub change_of : declared.Change → Change
change_of (variants.Clock now reports) = Clock now reports
change_of (variants.Put row) = Put row
change_of (variants.Gone store) = Gone store
change_of (variants.Forward add pattern) = Forward add pattern
change_of (variants.Types store add pattern) = Types store add pattern
change_of (variants.Links store links) = Links store links.now
change_of (variants.Swap store block first) = Swap store (record { block = block; first = first })

-- the time and the patterns of a change are within their ranges
abbrev pub IsChange : Change → Type 0
IsChange (Clock now reports) = now < 2 ^ 48
IsChange (Forward add pattern) = IsPattern pattern
IsChange (Types store add pattern) = IsPattern pattern
IsChange _ = Unit {0}

-- the greatest sizes after a change
abbrev pub largest_after : Change → (ℕ → ℕ) → ℕ → ℕ
largest_after (Put row) largest identifier =
    if identifier == row.identifier then greater (largest row.identifier) row.size
    else largest identifier
largest_after (Gone store) largest identifier =
    if identifier == store then 0 else largest identifier
largest_after _ largest identifier = largest identifier

abbrev pub largest_after_all : List Change → (ℕ → ℕ) → ℕ → ℕ
largest_after_all [] largest = largest
largest_after_all (change ∷ changes) largest =
    largest_after_all changes (largest_after change largest)

-- A change that may take memory: a Put of a new store, or of a size greater than each that the store
-- has had.
abbrev pub NeedsRoom : Change → (ℕ → ℕ) → Type 0
NeedsRoom (Put row) largest = largest row.identifier < row.size
NeedsRoom _ largest = ⊥
