-- What carrying out a command is, where the flash holds the table.
use Rattle.std.specs.Prelude.{◌≡◌, ◌≢◌, ◌≤◌, ◌⊎◌, ⊤, ℕ, ◌+◌, ◌++◌, Bool, true, List, length, Result, Ok, Err, is_ok}
use Rattle.board.specs.Counts.{Rose, RoseBy}
use Rattle.board.specs.Meaning.{BoardMeaning, TellsFlash, TellsLink}
use Rattle.board.specs.Moments.{GainsFront, LeavesOnly, SendsNothing, SendsOnly, Shows}
use Rattle.image_table.specs.Standing.{HoldsEitherTable, HoldsTable}
use Rattle.pst_model.specs.Rules.{Step}
use Rattle.pst_model.specs.Run.{lines_of}
use Rattle.pst_model.specs.Table.{Table}
use Rattle.report_lines.specs.Counting.{IsCountOf}
use Rattle.report_lines.specs.declared.sent.Sent.{Sent}
use Rattle.store_policy.specs.Shown.{IsTableShown}
use Rattle.store_policy.specs.declared.view.View.{View}
use Rattle.vault.specs.Memory.{InMemory, IsSound, IsViewOf}
use Rattle.vault.specs.Standing.{StandsFor}
use Rattle.handler.specs.declared.fault.HandlerFault.{HandlerFault}
use Rattle.handler.specs.declared.fault.HandlerFault.TheVariants.{Flash, Link, Mismatch, NoMemory}

-- What is in memory of a handler: its vault, and whether it is open itself.
pub record Held : Type 0 where
  pub vault : InMemory
  pub is_open : Bool

-- the handler of a vault
abbrev pub handler_of : InMemory → (is_open : Bool) → Held
handler_of vault is_open = record { vault = vault; is_open = is_open }

-- A vault is open, and what is in memory of it fits together.
pub record IsReady (vault : InMemory) : Type 0 where
  pub is_open : vault.is_open ≡ true
  pub sound : IsSound vault

-- this is a table that a vault shows
abbrev pub IsShownBy : InMemory → Table → Type 0
IsShownBy vault table = (view : View) → IsViewOf view vault → IsTableShown table view

-- A board is the one of a vault: it has as many blocks, and if it tells its flash, the vault stands for
-- a table of it.
pub record IsBoardOf {B : Type 0} (means : BoardMeaning B) (vault : InMemory) (board : B) : Type 0 where
  pub blocks : vault.blocks ≡ (means.device board).blocks
  pub flash : TellsFlash means board → (table : Table) × StandsFor vault (means.flash board) table

-- What had been sent by a moment of a command, and an image of that moment: nothing of the command was
-- sent, and the image holds the table from before; or it holds the table behind the command, and a
-- prefix of its lines was sent.
abbrev pub IsInStep : (blocks : ℕ) → Table → Step → (before octets : List ℕ) → (ℕ → List ℕ) → Type 0
IsInStep blocks table step before octets image =
    ((octets ≡ before) × HoldsTable blocks table image)
    ⊎ (GainsFront before (lines_of step.outputs) octets × HoldsTable blocks step.table image)

-- so it is at each moment of a command, whatever table the flash held, and whatever the command's number
abbrev pub GoesInStep : {B : Type 0} → BoardMeaning B → (old new : B) → InMemory
    → (steps : (number : ℕ) → Table → Step) → Type 0
GoesInStep means old new vault steps = TellsFlash means old → TellsLink means old
    → (table : Table) (number : ℕ) → StandsFor vault (means.flash old) table
    → Shows means old new
    (IsInStep vault.blocks table (steps number table) (means.sent old (means.moment old)))

-- What had been sent at each moment of a command, also at one that leaves no image: a prefix of its
-- lines.
abbrev pub SendsFront : {B : Type 0} → BoardMeaning B → (old new : B) → InMemory
    → (steps : (number : ℕ) → Table → Step) → Type 0
SendsFront means old new vault steps = TellsFlash means old → TellsLink means old
    → (table : Table) (number : ℕ) → StandsFor vault (means.flash old) table
    → SendsOnly means old new
    (GainsFront (means.sent old (means.moment old)) (lines_of (steps number table).outputs))

-- If the link is not told: each image holds the table from before, or the one behind the command.
abbrev pub LeavesEither : {B : Type 0} → BoardMeaning B → (old new : B) → InMemory
    → (steps : (number : ℕ) → Table → Step) → Type 0
LeavesEither means old new vault steps = TellsFlash means old
    → (table : Table) (number : ℕ) → StandsFor vault (means.flash old) table
    → LeavesOnly means old new (HoldsEitherTable vault.blocks table (steps number table).table)

-- The outputs of a command were sent, each line by a call of its own, and counted.
pub record HasSent {B : Type 0} (means : BoardMeaning B) (old new : B) (step : Step) (sent : Sent)
    : Type 0 where
  pub counted : IsCountOf step.outputs sent
  pub octets : TellsLink means old → means.sent new (means.moment new)
      ≡ means.sent old (means.moment old) ++ lines_of step.outputs
  pub least : RoseBy (length step.outputs) (means.counts old).sends (means.counts new).sends
  pub most : (means.counts new).sends ≤ (means.counts old).sends + length step.outputs

-- A command was carried out: the vault stands for the table behind it, each image holds that table, and
-- its lines were sent.
pub record CarriesOut {B : Type 0} (means : BoardMeaning B) (old new : B) (before after : InMemory)
    (steps : (number : ℕ) → Table → Step) (sent : Sent) : Type 0 where
  pub stands : (table : Table) (number : ℕ) → StandsFor before (means.flash old) table
      → StandsFor after (means.flash new) (steps number table).table
  pub holds : (table : Table) (number : ℕ) → StandsFor before (means.flash old) table
      → (image : ℕ → List ℕ) → means.images new (means.moment new) image
      → HoldsTable before.blocks (steps number table).table image
  pub sends : (table : Table) (number : ℕ) → StandsFor before (means.flash old) table
      → HasSent means old new (steps number table) sent

-- The link failed: each image holds the table behind the command, and its lines were sent by at most a
-- call for each.
pub record BreaksOff {B : Type 0} (means : BoardMeaning B) (old new : B) (before : InMemory)
    (steps : (number : ℕ) → Table → Step) : Type 0 where
  pub holds : (table : Table) (number : ℕ) → StandsFor before (means.flash old) table
      → (image : ℕ → List ℕ) → means.images new (means.moment new) image
      → HoldsTable before.blocks (steps number table).table image
  pub most : (table : Table) (number : ℕ) → StandsFor before (means.flash old) table
      → (means.counts new).sends ≤ (means.counts old).sends + length (steps number table).outputs

-- Why a command was not carried out, by the counts. At each answer but that of the link's failure its
-- count of faults is as before, and so is the flash's at each but that of its own.
abbrev pub HasCause : {A B : Type 0} → BoardMeaning B → (old new : B) → Result A HandlerFault → Type 0
HasCause means old new (Ok sent) =
    ((means.counts new).flash_faults ≡ (means.counts old).flash_faults)
    × ((means.counts new).link_faults ≡ (means.counts old).link_faults)
HasCause means old new (Err Link) =
    ((means.counts new).flash_faults ≡ (means.counts old).flash_faults)
    × Rose (means.counts old).link_faults (means.counts new).link_faults
HasCause means old new (Err Flash) =
    Rose (means.counts old).flash_faults (means.counts new).flash_faults
    × ((means.counts new).link_faults ≡ (means.counts old).link_faults)
HasCause means old new (Err (Mismatch block page kept found)) =
    (kept ≢ found) × (TellsFlash means old → ⊥)
    × ((means.counts new).flash_faults ≡ (means.counts old).flash_faults)
    × ((means.counts new).link_faults ≡ (means.counts old).link_faults)
HasCause means old new (Err NoMemory) =
    ((means.counts new).flash_faults ≡ (means.counts old).flash_faults)
    × ((means.counts new).link_faults ≡ (means.counts old).link_faults)

-- something that holds if the link failed
abbrev pub OnLink : {A : Type 0} → Result A HandlerFault → Type 0 → Type 0
OnLink (Err Link) P = P
OnLink answer P = ⊤

-- something that holds if the flash failed, or differed
abbrev pub OnFlash : {A : Type 0} → Result A HandlerFault → Type 0 → Type 0
OnFlash (Err Flash) P = P
OnFlash (Err (Mismatch block page kept found)) P = P
OnFlash answer P = ⊤

-- What a command's answer says. Memory is not wanting for any command.
pub record Answers {B : Type 0} (means : BoardMeaning B) (old new : B) (before after : Held)
    (steps : (number : ℕ) → Table → Step) (result : Result Sent HandlerFault) : Type 0 where
  pub in_step : GoesInStep means old new before.vault steps
  pub moments : SendsFront means old new before.vault steps
  pub either : LeavesEither means old new before.vault steps
  pub done : (sent : Sent) → result ≡ Ok sent → TellsFlash means old
      → CarriesOut means old new before.vault after.vault steps sent
  pub breaks : OnLink result (TellsFlash means old → BreaksOff means old new before.vault steps)
  -- if the flash failed, or differed, nothing of the command was sent
  pub unsent : OnFlash result ((TellsLink means old → SendsNothing means old new)
      × ((means.counts new).sends ≡ (means.counts old).sends))
  pub cause : HasCause means old new result
  pub memory : result ≢ Err NoMemory
  pub device : means.device new ≡ means.device old
  -- it is open exactly if it succeeded, and the board is that of the vault then
  pub is_open : after.is_open ≡ is_ok result
  pub board : (sent : Sent) → result ≡ Ok sent → IsBoardOf means after.vault new
