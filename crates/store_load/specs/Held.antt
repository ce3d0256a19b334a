-- The records of which a store was loaded, whether or not the board tells its flash.
use Rattle.std.specs.Prelude.{◌≡◌, ◌||◌, nat_le, ℕ, true, List, [], ◌∷◌, Some}
use Rattle.record_view.specs.Records.{Meaning}
use Rattle.record_view.specs.declared.link.Link.{Link}
use Rattle.store_directory.specs.declared.row.Row.{Row}
use Rattle.time_index.specs.TimeIndex.{TimeIndex}
use Rattle.store_load.specs.Extents.{AreGiven, Extent, extents_of, last_read, pages_in}
use Rattle.store_load.specs.Kept.{begins_well}
use Rattle.store_load.specs.Loaded.{index_by}
use Rattle.store_load.specs.Loading.{Progress, is_last, take_records}
use Rattle.store_load.specs.declared.loading.Limits.{Limits}
use Rattle.store_load.specs.declared.rule.Rule.{Rule}

-- An index took the records of extents one after another, and every block but the last has at least
-- so many pages in use.
abbrev pub AreTaken : Limits → (least : ℕ) → List Extent → List (List Meaning) → (old new : Progress)
    → Type 0
AreTaken limits least [] [] old new = old ≡ new
AreTaken limits least [] (records ∷ reads) old new = ⊥
AreTaken limits least (extent ∷ extents) [] old new = ⊥
AreTaken limits least (extent ∷ extents) (records ∷ reads) old new =
    (middle : Progress) × (take_records limits extent.block 0 records old ≡ Some middle)
    × ((is_last extents || nat_le least (pages_in records)) ≡ true)
    × AreTaken limits least extents reads middle new

-- An index took what the blocks of extents gave. The records of the last one use so many pages.
pub record IsTaken (limits : Limits) (least : ℕ) (extents : List Extent) (old new : Progress)
    (used : ℕ) : Type 0 where
  pub reads : List (List Meaning)
  pub given : AreGiven extents reads
  pub taken : AreTaken limits least extents reads old new
  pub used_is : used ≡ pages_in (last_read reads)

-- A store was loaded: its links begin where its records do, and its index is by the rule that of
-- records which blocks spell, one block for each link. Those of the last one use so many pages.
pub record IsHeld (rule : Rule) (now : ℕ) (row : Row) (links : List Link) (index : TimeIndex)
    (used : ℕ) : Type 0 where
  pub begins : begins_well row links ≡ true
  pub reads : List (List Meaning)
  pub given : AreGiven (extents_of row links) reads
  pub index_is : index_by rule now row links reads ≡ Some index
  pub used_is : used ≡ pages_in (last_read reads)
