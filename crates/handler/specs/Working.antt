-- The work of the flash in a command.
use Rattle.std.specs.Prelude.{◌≤◌, ℕ, ◌+◌, ◌*◌, if◌then◌else◌, List, [], ◌∷◌, length}
use Rattle.board.specs.Counts.{Counts}
use Rattle.board.specs.Meaning.{BoardMeaning}
use Rattle.pst_model.specs.Rules.{Output}
use Rattle.pst_model.specs.Table.{Table}
use Rattle.report_lines.specs.Counting.{is_retrieved}
use Rattle.space_packet.specs.Charge.{charge_of}
use Rattle.store_policy.specs.Shown.{IsTableShown}
use Rattle.store_policy.specs.declared.view.View.{View}
use Rattle.vault.specs.Changing.{if_short}
use Rattle.vault.specs.Memory.{InMemory, IsViewOf}
use Rattle.vault.specs.Storing.{beginners, takers}

-- the pages of the records of the packets that are retrieved

abbrev pub pages_of : Output → ℕ
pages_of output = if is_retrieved output.kind then charge_of (length output.packet) else 0

abbrev pub pages_retrieved : List Output → ℕ
pages_retrieved [] = 0
pages_retrieved (output ∷ outputs) = pages_of output + pages_retrieved outputs

-- There were at most so many calls of each kind, whatever was sent.
pub record WorksWithin (reads programs erases barriers : ℕ) (old new : Counts) : Type 0 where
  pub reads_to : new.reads ≤ old.reads + reads
  pub programs_to : new.programs ≤ old.programs + programs
  pub erases_to : new.erases ≤ old.erases + erases
  pub barriers_to : new.barriers ≤ old.barriers + barriers

-- The work of an arriving packet if no store has to be renewed, for each table that the vault shows:
-- the checkpoint, if the journal has too little room; the pages of a record for each store that takes
-- the packet, and an erase and a barrier for each that takes it into a new block; and the entry.
abbrev pub ArrivesWithin : {B : Type 0} → BoardMeaning B → (before after : B) → InMemory
    → (packet : List ℕ) → Type 0
ArrivesWithin means before after vault packet =
    (table : Table) (view : View) → IsViewOf view vault → IsTableShown table view
    → let begun = beginners packet table.stores vault.directory.stores vault.lasts in
    let room = vault.journal.room in
    WorksWithin 0 (if_short room 85 + charge_of (length packet) * takers packet table.stores + 7)
    (if_short room 7 + begun) (if_short room 13 + begun + 2) (means.counts before)
    (means.counts after)
