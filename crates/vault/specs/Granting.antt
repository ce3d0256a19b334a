-- A grant: its packet is read from the flash, and then the row of its store is entered.
use Rattle.std.specs.Prelude.{◌≡◌, ◌≤◌, ⊤, ℕ, Bool, true, List, [], ◌∷◌, Option, Some, None, Result, Ok, Err, OnOk, is_ok}
use Rattle.board.specs.Meaning.{BoardMeaning, TellsFlash}
use Rattle.image_table.specs.Granting.{put_sent}
use Rattle.meta_journal.specs.Standing as journals
use Rattle.pst_model.specs.Rules.{Output, Retrieved, grant}
use Rattle.pst_model.specs.Table.{Table}
use Rattle.retrieval.specs.Grants.{IsRowAt}
use Rattle.retrieval.specs.Picks.{pick_of}
use Rattle.retrieval.specs.declared.pick.Pick.{Pick}
use Rattle.space_packet.specs.View.{octets_of}
use Rattle.space_packet.specs.declared.view.PacketView.{PacketView}
use Rattle.store_directory.specs.Changes.{apply}
use Rattle.store_directory.specs.declared.row.Row.{Row}
use Rattle.vault.specs.Changing.{RoomAfter}
use Rattle.vault.specs.Fetching.{TellsDifference, charge_at}
use Rattle.vault.specs.Memory.{InMemory, IsSound}
use Rattle.vault.specs.Standing.{StandsFor}
use Rattle.vault.specs.declared.fault.VaultFault.{VaultFault}
use Rattle.vault.specs.declared.fault.VaultFault.TheVariants.{Flash as FlashFault, Mismatch}

-- what goes out of a grant: the packet, on the channel of its store
abbrev pub sent_of : (number channel : ℕ) → (packet : List ℕ) → List Output
sent_of number channel packet =
    record { command = number; kind = Retrieved; channel = channel; packet = packet } ∷ []

-- The packet that is held, and the channel, are what the model's grant sends. Nothing differs.
abbrev pub SendsHeld : (number : ℕ) → Table → Result (Option ℕ) VaultFault → (packet : List ℕ) → Type 0
SendsHeld number table (Ok None) packet = (grant number table).outputs ≡ []
SendsHeld number table (Ok (Some channel)) packet =
    (grant number table).outputs ≡ sent_of number channel packet
SendsHeld number table (Err FlashFault) packet = ⊤
SendsHeld number table (Err (Mismatch block page kept found)) packet = ⊥

-- so are those of an answer
abbrev pub SendsAnswer : (number : ℕ) → Table → Result (Option (ℕ × PacketView)) VaultFault → Type 0
SendsAnswer number table (Ok None) = (grant number table).outputs ≡ []
SendsAnswer number table (Ok (Some (channel, packet))) =
    (grant number table).outputs ≡ sent_of number channel (octets_of packet)
SendsAnswer number table (Err FlashFault) = ⊤
SendsAnswer number table (Err (Mismatch block page kept found)) = ⊥

-- an answer without a packet comes exactly if nothing is picked
abbrev pub IsNoneFor : {A : Type 0} → Option Pick → Result (Option A) VaultFault → Type 0
IsNoneFor None (Ok None) = ⊤
IsNoneFor (Some pick) (Ok (Some answer)) = ⊤
IsNoneFor (Some pick) (Err fault) = ⊤
IsNoneFor _ _ = ⊥

-- a virtual channel of a store
abbrev pub IsChannel : ℕ → Type 0
IsChannel channel = (1 ≤ channel) × (channel ≤ 7)

-- the pages of the record that a grant reads

abbrev pub charge_of_pick : InMemory → Option Pick → ℕ
charge_of_pick vault None = 0
charge_of_pick vault (Some pick) = charge_at vault pick.at pick.position

abbrev pub charge_next : InMemory → ℕ
charge_next vault = charge_of_pick vault (pick_of vault.directory.stores)

-- a mismatch tells what differs of the record that is picked

abbrev pub DiffersAt : InMemory → Option Pick → VaultFault → Type 0
DiffersAt vault None fault = ⊥
DiffersAt vault (Some pick) fault = TellsDifference vault pick.at pick.position fault

abbrev pub DiffersNext : InMemory → VaultFault → Type 0
DiffersNext vault fault = DiffersAt vault (pick_of vault.directory.stores) fault

-- A vault after a packet of its next store was sent: only the row of this store, and what is kept of
-- the journal, are others. It is open if that succeeded.
pub record IsAfterPass {A E : Type 0} (old new : InMemory) (pick : Pick) (result : Result A E)
    : Type 0 where
  pub others : new ≡ record old {
    directory = new.directory;
    journal = new.journal;
    is_open = is_ok result;
  }
  pub directory : (row : Row) → IsRowAt old.directory.stores pick.at row
      → OnOk result (apply old.directory.directory (put_sent pick row) ≡ Some new.directory.directory)

-- A vault after a grant, which is open if the grant succeeded.
pub record IsGranted {B : Type 0} (means : BoardMeaning B) (before after : B) (old new : InMemory)
    (is_open : Bool) : Type 0 where
  -- only the row of a store, what is kept of the journal, and the record that is held are others
  pub others : new ≡ record old {
    directory = new.directory;
    journal = new.journal;
    held = new.held;
    is_open = is_open;
  }
  -- nothing is if nothing is picked
  pub none : pick_of old.directory.stores ≡ None → new ≡ old
  pub directory : (pick : Pick) (row : Row) → pick_of old.directory.stores ≡ Some pick
      → IsRowAt old.directory.stores pick.at row → is_open ≡ true
      → apply old.directory.directory (put_sent pick row) ≡ Some new.directory.directory
  -- the entry has two pages
  pub room : (pick : Pick) → pick_of old.directory.stores ≡ Some pick → is_open ≡ true
      → RoomAfter 2 old.journal.room new.journal.room
  pub sound : is_open ≡ true → IsSound new
  pub journal : is_open ≡ true → TellsFlash means before
      → journals.StandsFor new.journal (means.flash after)
  -- if the flash is told, it stands for the table after the grant, whatever the grant's number
  pub stands : is_open ≡ true → TellsFlash means before → (table : Table) (number : ℕ)
      → StandsFor old (means.flash before) table
      → StandsFor new (means.flash after) (grant number table).table
