-- What a request makes of the stores in memory, and of the text of its entry.
use Rattle.std.specs.Prelude.{◌≡◌, ◌≤◌, ℕ, ◌+◌, true, List, length, map, Option, Some, None, Result, Ok, Err, is_ok}
use Rattle.board.specs.Flash.{IsContent}
use Rattle.octet_fields.specs.Fields.{Writes}
use Rattle.control_defs.specs.declared.instructions.Instruction.{Instruction}
use Rattle.image_table.specs.Table.{table_by}
use Rattle.pst_model.specs.Answers.{carry_out}
use Rattle.pst_model.specs.Table.{Table}
use Rattle.request_laws.specs.Carrying.{HasCarried, IsViewWith, carried_up_to}
use Rattle.request_laws.specs.Changing.{indexes_by}
use Rattle.request_laws.specs.Counting.{table_behind}
use Rattle.store_directory.specs.Changes.{Change, apply}
use Rattle.store_directory.specs.Directory.{Directory, IsDirectory}
use Rattle.store_directory.specs.Entries.{change_octets, entry_octets}
use Rattle.store_directory.specs.Folds.{fold_entry}
use Rattle.store_load.specs.Claims.{may_share}
use Rattle.store_policy.specs.Codes.{code_of}
use Rattle.store_policy.specs.Shown.{IsTableShown}
use Rattle.store_policy.specs.declared.refusal.Refusal.{Refusal}
use Rattle.store_policy.specs.declared.view.View.{View}
use Rattle.time_index.specs.TimeIndex.{TimeIndex}
use Rattle.vault.specs.Following.{HasMoved, Stores, lasts_by}
use Rattle.vault.specs.Memory.{InMemory}

-- something that holds of each table that is shown of a directory and indexes
abbrev pub OfShown : Directory → List TimeIndex → (Table → Type 0) → Type 0
OfShown d indexes P =
    (table : Table) (view : View) → IsViewWith d indexes view → IsTableShown table view → P table

-- the number of a refused instruction and the code of its refusal
abbrev pub failure_of : ℕ × Refusal → ℕ × ℕ
failure_of refused = (refused.0, code_of refused.1)

-- an instruction was refused, or it was not
abbrev pub verdict_of : {A : Type 0} → Result A Refusal → Result (Unit {0}) Refusal
verdict_of (Ok answer) = Ok tt
verdict_of (Err refusal) = Err refusal

-- the stores behind the change of an instruction, which makes this directory
abbrev pub stepped : Instruction → Stores → (next : Directory) → Stores
stepped item old next = record {
  directory = next;
  indexes = indexes_by old.directory old.indexes item;
  lasts = lasts_by old.directory old.indexes old.lasts item;
}

-- The change of an instruction was made, if it fits, and was written at a place.
pub record MakesChange (item : Instruction) (change : Change) (old new : Stores) (at end : ℕ)
    (before text : List ℕ) : Type 0 where
  pub made : (next : Directory) → apply old.directory change ≡ Some next → new ≡ stepped item old next
  pub place : end ≡ at + length (change_octets change)
  pub written : Writes before text at (change_octets change)

-- nothing was changed
pub record MakesNone (old new : Stores) (at end : ℕ) (before text : List ℕ) : Type 0 where
  pub made : new ≡ old
  pub place : end ≡ at
  pub written : text ≡ before

-- An instruction took effect by its change, if it makes one.
abbrev pub TakesEffect : Instruction → Option Change → (old new : Stores) → (at end : ℕ)
    → (before text : List ℕ) → Type 0
TakesEffect item (Some change) old new at end before text =
    MakesChange item change old new at end before text
TakesEffect item None old new at end before text = MakesNone old new at end before text

-- The first instructions, so many of them, were carried out. Their changes were written at the front,
-- in so many octets, and these were refused.
pub record AreCarriedOut (blocks : ℕ) (items : List Instruction) (at : ℕ) (old new : Stores)
    (refused : List (ℕ × Refusal)) (size : ℕ) (before text : List ℕ) : Type 0 where
  pub changes : List Change
  pub size_is : size ≡ length (entry_octets changes)
  pub written : Writes before text 0 (entry_octets changes)
  pub moved : HasMoved blocks old new
  pub carried : OfShown old.directory old.indexes
      (λ table. HasCarried blocks old.directory table items at changes new.directory new.indexes)
  pub refusals : OfShown old.directory old.indexes
      (λ table. map failure_of refused ≡ (carried_up_to blocks items at table).failures)

-- A request was carried out, and its reports are counted: the text makes this directory, and what is
-- shown of it is the table behind the request.
pub record IsPrepared (blocks acks : ℕ) (items : List Instruction) (old new : Stores)
    (refused : List (ℕ × Refusal)) (text : List ℕ) : Type 0 where
  pub folded : fold_entry old.directory text ≡ Some new.directory
  pub shortest : 1 ≤ length text
  pub longest : length text ≤ 969
  pub directory : IsDirectory new.directory
  pub share : may_share 240 blocks new.directory.stores ≡ true
  pub now : new.directory.now ≡ old.directory.now
  pub moved : HasMoved blocks old new
  pub refusals : OfShown old.directory old.indexes
      (λ table. map failure_of refused ≡ (carry_out blocks items table).failures)
  pub held : OfShown old.directory old.indexes (λ table. (image : ℕ → List ℕ)
      → IsContent blocks image → table_by blocks image old.directory ≡ Some table
      → table_by blocks image new.directory ≡ Some (table_behind blocks acks items table))
  pub shown : (table : Table) (view after : View) → IsViewWith old.directory old.indexes view
      → IsViewWith new.directory new.indexes after → IsTableShown table view
      → IsTableShown (table_behind blocks acks items table) after

-- A vault after a request: only the stores, which blocks are free, and what is kept of the journal, are
-- others. It is open if the request was carried out.
abbrev pub IsAfterRequest : {A E : Type 0} → (old new : InMemory) → Result A E → Type 0
IsAfterRequest old new result = new ≡ record old {
  directory = new.directory;
  indexes = new.indexes;
  lasts = new.lasts;
  pool = new.pool;
  journal = new.journal;
  is_open = is_ok result;
}
