-- Stores as they are kept in memory.
use Rattle.std.specs.Prelude.{◌≡◌, ◌≤◌, ℕ, true, ◌==◌, nat_lt, if◌then◌else◌, List, [], ◌∷◌, ◌++◌, length, map, Option, Some, None}
use Rattle.std.specs.List.{All}
use Rattle.block_pool.specs.Sizes.{blocks_for_size}
use Rattle.store_directory.specs.Changes.{listed_by, put_row}
use Rattle.store_directory.specs.Directory.{IsListed, Listed, are_distinct, find_store, identifiers, place_of, reserved_by}
use Rattle.store_directory.specs.declared.row.Row.{Row}
use Rattle.store_directory.specs.declared.slot.Slot.{Slot}

-- the greater of two numbers
abbrev pub greater : ℕ → ℕ → ℕ
greater a b = if nat_lt a b then b else a

-- what a slot shows
abbrev pub listed_of : Slot → Listed
listed_of slot = record { row = slot.row; patterns = slot.patterns; links = slot.links.items }

-- What is kept of a slot: its links have room for all blocks that the greatest size reserves which
-- its store has had.
pub record IsSlot (slot : Slot) : Type 0 where
  pub listed : IsListed (listed_of slot)
  pub within : slot.row.size ≤ slot.largest
  pub room : blocks_for_size slot.largest ≤ slot.links.room

-- Patterns or links of a slot may have changed, and all else is as it was.
pub record KeepsSlot (old new : Slot) : Type 0 where
  pub row : new.row ≡ old.row
  pub largest : new.largest ≡ old.largest
  pub slot : IsSlot old → IsSlot new

-- The row was put in the place of the one that a slot had.
pub record PutsRow (row : Row) (old new : Slot) : Type 0 where
  pub listed : listed_of new ≡ listed_by row (Some (listed_of old))
  pub largest : new.largest ≡ greater old.largest row.size
  pub slot : IsSlot new

-- the stores of slots under their identifiers
abbrev pub stores_of : List (ℕ × Slot) → List Listed
stores_of entries = map (λ entry. listed_of entry.1) entries

-- identifiers, each with the greatest size that its store has had
abbrev pub sizes_of : List (ℕ × Slot) → List (ℕ × ℕ)
sizes_of entries = map (λ entry. (entry.0, entry.1.largest)) entries

-- the size with an identifier, and 0 where there is none
abbrev pub largest_in : List (ℕ × ℕ) → (identifier : ℕ) → ℕ
largest_in [] identifier = 0
largest_in (size ∷ sizes) identifier =
    if identifier == size.0 then size.1 else largest_in sizes identifier

-- a slot stands under its own identifier
pub record IsEntry (entry : ℕ × Slot) : Type 0 where
  pub own : entry.1.row.identifier ≡ entry.0
  pub slot : IsSlot entry.1

-- what is kept of the slots of a directory
pub record AreSlots (entries : List (ℕ × Slot)) : Type 0 where
  pub few : length entries ≤ 32
  pub reserved : reserved_by (stores_of entries) ≤ 504
  pub distinct : are_distinct (identifiers (stores_of entries)) ≡ true
  pub each : All IsEntry entries

-- the stores in order, and the greatest size that each of them has had
pub record Held : Type 0 where
  pub stores : List Listed
  pub sizes : List (ℕ × ℕ)

-- the size of a store, and 0 where there is none
abbrev pub size_of : Option Listed → ℕ
size_of None = 0
size_of (Some s) = s.size

-- No store has been greater than it is.
abbrev pub HasOwnSizes : Held → Type 0
HasOwnSizes held = (identifier : ℕ) → largest_in held.sizes identifier ≡ size_of (find_store identifier held.stores)

-- No store is greater than it has been.
abbrev pub AreWithin : Held → Type 0
AreWithin held = (identifier : ℕ)
    → size_of (find_store identifier held.stores) ≤ largest_in held.sizes identifier

-- A row was put among the stores.
pub record PutsStore (row : Row) (old new : Held) : Type 0 where
  pub stores : put_row row old.stores ≡ Some new.stores
  pub largest : (identifier : ℕ) → largest_in new.sizes identifier
      ≡ (if identifier == row.identifier then greater (largest_in old.sizes row.identifier) row.size
      else largest_in old.sizes identifier)

-- A store was put behind the others, and this is the greatest size that it has had.
pub record AddsStore (listed : Listed) (size : ℕ) (old new : Held) : Type 0 where
  -- no store had its identifier
  pub fresh : place_of listed.identifier old.stores ≡ None
  pub stores : new.stores ≡ old.stores ++ listed ∷ []
  pub largest : (identifier : ℕ) → largest_in new.sizes identifier
      ≡ (if identifier == listed.identifier then size else largest_in old.sizes identifier)
