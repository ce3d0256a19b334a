-- A request on its way through its instructions. Its entry has one change for each that takes effect and
-- does more than ask, and last the change of the clock, which counts all its reports.
use Rattle.std.specs.Prelude.{◌≡◌, ◌≤◌, ℕ, ◌+◌, ◌*◌, All, List, [], ◌∷◌, ◌++◌, length, take, true, Some}
use Rattle.board.specs.Flash.{IsContent}
use Rattle.control_defs.specs.declared.instructions.Instruction.{Instruction}
use Rattle.image_table.specs.Granting.{counted}
use Rattle.image_table.specs.Table.{table_by}
use Rattle.pst_model.specs.Answers.{Carried, carry_out}
use Rattle.pst_model.specs.Table.{Table}
use Rattle.store_directory.specs.Changes.{Change, apply, apply_all}
use Rattle.store_directory.specs.Directory.{Directory, IsDirectory}
use Rattle.store_directory.specs.Entries.{CanBeWritten, FitsChange, entry_octets}
use Rattle.store_directory.specs.Folds.{fold_entry}
use Rattle.store_directory.specs.Kept.{IsChange}
use Rattle.store_load.specs.Claims.{may_share}
use Rattle.store_policy.specs.declared.view.View.{View}
use Rattle.time_index.specs.TimeIndex.{TimeIndex}
use Rattle.request_laws.specs.Changing.{HasIndexes, IsTableOf, StepsBy, indexes_by}
use Rattle.request_laws.specs.Counting.{reports_on_table, table_behind}

-- what the first instructions, so many of them, make of a table, and which of them fail
abbrev pub carried_up_to : (blocks : ℕ) → List Instruction → (at : ℕ) → Table → Carried
carried_up_to blocks items at table = carry_out blocks (take at items) table

-- The first instructions of a request, so many of them, were carried out on a table of a directory.
-- These changes, one for each at most, make the next directory, which with these indexes is that of the
-- model's table so far. They can be written, in 30 octets each at most. Each image that held the table
-- holds by the next directory what the instructions made of it.
pub record HasCarried (blocks : ℕ) (d : Directory) (table : Table) (items : List Instruction) (at : ℕ)
    (changes : List Change) (next : Directory) (indexes : List TimeIndex) : Type 0 where
  pub made : apply_all d changes ≡ Some next
  pub written : All FitsChange changes
  pub short : length (entry_octets changes) ≤ 30 * at
  pub directory : IsDirectory next
  pub share : may_share 240 blocks next.stores ≡ true
  pub is_of : IsTableOf (carried_up_to blocks items at table).table next
  pub has : HasIndexes (carried_up_to blocks items at table).table next indexes
  pub now : next.now ≡ d.now
  pub reports : next.reports ≡ d.reports
  pub held : (image : ℕ → List ℕ) → IsContent blocks image → table_by blocks image d ≡ Some table
      → table_by blocks image next ≡ Some (carried_up_to blocks items at table).table

-- The next instruction failed, or asked for something: no change was made. These are its failures, one or
-- none.
pub record HasPassed (blocks : ℕ) (d : Directory) (table : Table) (items : List Instruction) (at : ℕ)
    (changes : List Change) (next : Directory) (indexes : List TimeIndex) (more : List (ℕ × ℕ))
    : Type 0 where
  pub walk : HasCarried blocks d table items (at + 1) changes next indexes
  pub failures : (carried_up_to blocks items (at + 1) table).failures
      ≡ (carried_up_to blocks items at table).failures ++ more

-- The next instruction took effect by this change, which fits and can be written.
pub record HasChanged (blocks : ℕ) (d : Directory) (table : Table) (items : List Instruction) (at : ℕ)
    (changes : List Change) (before : Directory) (indexes : List TimeIndex) (item : Instruction)
    (change : Change) : Type 0 where
  pub next : Directory
  pub applied : apply before change ≡ Some next
  pub fits : FitsChange change
  pub can_be_written : CanBeWritten change
  pub in_range : IsChange change
  pub step : StepsBy item before indexes next
  pub walk : HasCarried blocks d table items (at + 1) (changes ++ change ∷ []) next
      (indexes_by before indexes item)
  pub failures : (carried_up_to blocks items (at + 1) table).failures
      ≡ (carried_up_to blocks items at table).failures

-- the last change of a request, which counts its reports at the time that the directory has
abbrev pub count_of : (blocks acks : ℕ) → List Instruction → Table → Directory → Change
count_of blocks acks items table next = counted (reports_on_table blocks acks items table) next

-- A request ends with the change of the clock behind the others: its entry makes the last directory,
-- which is that of the table behind the request.
pub record HasEnded (blocks : ℕ) (d : Directory) (table : Table) (acks : ℕ) (items : List Instruction)
    (changes : List Change) (next : Directory) : Type 0 where
  pub last : Directory
  pub applied : apply next (count_of blocks acks items table next) ≡ Some last
  pub fits : FitsChange (count_of blocks acks items table next)
  pub can_be_written : CanBeWritten (count_of blocks acks items table next)
  pub in_range : IsChange (count_of blocks acks items table next)
  pub made : apply_all d (changes ++ count_of blocks acks items table next ∷ []) ≡ Some last
  pub folded : fold_entry d (entry_octets (changes ++ count_of blocks acks items table next ∷ []))
      ≡ Some last
  pub shortest : 9 ≤ length (entry_octets (changes ++ count_of blocks acks items table next ∷ []))
  pub longest : length (entry_octets (changes ++ count_of blocks acks items table next ∷ [])) ≤ 969
  pub directory : IsDirectory last
  pub stores : last.stores ≡ next.stores
  pub now : last.now ≡ d.now
  pub is_of : IsTableOf (table_behind blocks acks items table) last

-- What is shown of a directory and indexes.
pub record IsViewWith (d : Directory) (kept : List TimeIndex) (view : View) : Type 0 where
  pub directory : view.directory.now.directory ≡ d
  pub indexes : view.indexes.now ≡ kept
