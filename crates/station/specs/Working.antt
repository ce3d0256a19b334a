-- The work of the flash in a session whose commands are arrivals, grants and idle times.
use Rattle.std.specs.Prelude.{◌≡◌, ◌≤◌, ◌<◌, ◌⊎◌, ⊤, ℕ, ◌+◌, ◌*◌, ◌/◌, ◌==◌, false, if◌then◌else◌, List, [], ◌∷◌, length, slice_get, Some, IsTrue}
use Rattle.board.specs.Counts.{Counts}
use Rattle.board.specs.Meaning.{BoardMeaning, SourceMeaning, TellsFlash}
use Rattle.handler.specs.Working.{pages_retrieved}
use Rattle.pst_model.specs.Command.{Arrival, Command, Grant, Idle, Request}
use Rattle.pst_model.specs.Rules.{Output}
use Rattle.pst_model.specs.Run.{step}
use Rattle.pst_model.specs.Table.{Store, Table}
use Rattle.pst_model.specs.Text.{commands_of}
use Rattle.space_packet.specs.Charge.{charge_of}
use Rattle.space_packet.specs.Packet.{apid_of}
use Rattle.station.specs.declared.ending.Ending.{Ending}
use Rattle.station.specs.declared.ending.Ending.TheVariants.{Done}
use Rattle.station.specs.Reading.{text_limit}
use Rattle.turn_laws.specs.Turns.{outputs_of}
use Rattle.vault.specs.Memory.{InMemory}
use Rattle.vault.specs.Standing.{StandsFor}
use Rattle.vault.specs.Storing.{takers}
use Rattle.vault.specs.declared.last_block.LastBlock.{LastBlock}

-- an arrival, a grant or an idle time
abbrev pub IsPlain : Command → Type 0
IsPlain (Arrival moment packet) = ⊤
IsPlain (Request moment packet) = ⊥
IsPlain (Grant moment) = ⊤
IsPlain (Idle moment) = ⊤

abbrev pub ArePlain : List Command → Type 0
ArePlain [] = ⊤
ArePlain (command ∷ commands) = IsPlain command × ArePlain commands

-- no store has a packet
abbrev pub AreEmpty : List Store → Type 0
AreEmpty [] = ⊤
AreEmpty (store ∷ stores) = (store.packets ≡ []) × AreEmpty stores

-- The pages of the records that a command puts into stores: an arriving packet is put into each store
-- to which it is offered and that does not refuse it. An idle one is offered to none.
abbrev pub pages_put : Command → Table → ℕ
pages_put (Arrival moment packet) table =
    if apid_of packet == 2047 then 0 else charge_of (length packet) * takers packet table.stores
pages_put (Request moment packet) table = 0
pages_put (Grant moment) table = 0
pages_put (Idle moment) table = 0

-- those of commands one after another, the first of which has this number
abbrev pub put_from : (blocks number : ℕ) → Table → List Command → ℕ
put_from blocks number table [] = 0
put_from blocks number table (command ∷ commands) =
    pages_put command table
    + put_from blocks (number + 1) (step blocks number command table).table commands

-- The work of commands on a table, beside so many reads and programs. They read the packets that they
-- retrieve. They write the packets that they put, an entry of at most 7 pages each, and a checkpoint
-- with its root pages each time that a half of the journal is full, and first of all.
pub record WorksFor (blocks : ℕ) (table : Table) (commands : List Command) (reads programs : ℕ)
    (old new : Counts) : Type 0 where
  pub reads_to : new.reads
      ≤ old.reads + (reads + pages_retrieved (outputs_of blocks table commands))
  pub programs_to : new.programs ≤ old.programs + (programs + put_from blocks 1 table commands
      + 7 * length commands + 85 * ((7 * length commands) / 412 + 1))

-- The work of a session whose text is arrivals, grants and idle times, and which ends with Done. The
-- opening reads each page twice at most.
abbrev pub SessionWorks : {B S : Type 0} → BoardMeaning B → SourceMeaning S
    → (programs : ℕ) → (begins : Table → Type 0) → (old new : B) → (origin : S) → Ending → Type 0
SessionWorks means input programs begins old new origin ending =
    ending ≡ Done → TellsFlash means old → IsTrue (input.tells origin)
    → (table : Table) → begins table
    → let commands = commands_of text_limit (input.left origin) in
    let blocks = (means.device old).blocks in
    ArePlain commands
    → WorksFor blocks table commands (512 * blocks) programs (means.counts old) (means.counts new)

-- no last block of a vault is stale
abbrev pub NoneIsStale : InMemory → Type 0
NoneIsStale vault = (place : ℕ) (last : LastBlock) → slice_get vault.lasts place ≡ Some last
    → last.stale ≡ false

-- What a command programs, besides so many pages of records, and the room of the journal behind it: an
-- entry of at most 7 pages was added, or the other half counts, with 432 pages of room before the
-- entry at least.
abbrev pub Enters : (pages : ℕ) → (was now : ℕ) → (old new : ℕ) → Type 0
Enters pages was now old new =
    ((was ≤ now + 7) × (new ≤ old + (pages + 7)))
    ⊎ ((was < 21) × (432 ≤ now + 7) × (new ≤ old + (pages + 7 + 85)))

-- The work of a command on a table.
pub record CommandWorks (command : Command) (table : Table) (outputs : List Output)
    (was now : InMemory) (old new : Counts) : Type 0 where
  pub fresh : NoneIsStale now
  pub reads : new.reads ≤ old.reads + pages_retrieved outputs
  pub enters : Enters (pages_put command table) was.journal.room now.journal.room old.programs
      new.programs

-- So is that of a command, whatever table the flash held and whatever the command's number.
abbrev pub TurnWorks : {B : Type 0} → BoardMeaning B → (old new : B) → Command
    → (was now : InMemory) → Type 0
TurnWorks means old new command was now = TellsFlash means old → (table : Table) (number : ℕ)
    → StandsFor was (means.flash old) table → IsPlain command → NoneIsStale was
    → CommandWorks command table
    (step (means.device old).blocks number command table).outputs was now (means.counts old)
    (means.counts new)

-- The work of the commands that were carried out so far on a table, and the vault behind them.
pub record Worked (blocks : ℕ) (table : Table) (done : List Command) (vault : InMemory)
    (old new : Counts) : Type 0 where
  pub fresh : NoneIsStale vault
  pub reads : new.reads ≤ old.reads + pages_retrieved (outputs_of blocks table done)
  -- how often the other half of the journal began to count
  pub switches : ℕ
  pub programs : new.programs
      ≤ old.programs + (put_from blocks 1 table done + 7 * length done + 85 * switches)
  -- each time but the first, entries had taken 412 pages of the half at least
  pub few : 1 ≤ switches → 412 * switches ≤ 7 * length done + 412
  pub left : 1 ≤ switches → 412 * switches + 20 ≤ 7 * length done + vault.journal.room
