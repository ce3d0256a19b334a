-- A packet that is put into each store that takes it, from the begin to the commit.
use Rattle.std.specs.Prelude.{◌≡◌, ℕ, ◌+◌, ◌*◌, List, length, Result, is_ok}
use Rattle.board.specs.Counts.{Works}
use Rattle.board.specs.Flash.{Flash}
use Rattle.board.specs.Meaning.{BoardMeaning}
use Rattle.pst_model.specs.Table.{Stored, Table}
use Rattle.space_packet.specs.Charge.{charge_of}
use Rattle.store_directory.specs.Changes.{Change}
use Rattle.store_policy.specs.Shown.{IsTableShown}
use Rattle.store_policy.specs.declared.view.View.{View}
use Rattle.vault.specs.Changing.{if_short}
use Rattle.vault.specs.Memory.{InMemory, IsViewOf}
use Rattle.vault.specs.Standing.{StandsFor}
use Rattle.vault.specs.Storing.{AreFreshFor, HasPut, IsOffering, OffersOn, beginners, takers}

-- The clock rose to the time of a packet, which was offered to no store yet.
pub record BeginsPut (old now : InMemory) (stored : Stored) (text : List ℕ) : Type 0 where
  pub changes : List Change
  pub memory : AreFreshFor stored.octets old → IsOffering old now stored 0 changes text
  pub flash : (flash : Flash) (table : Table) → StandsFor old flash table
      → OffersOn flash old now table stored 0 changes

-- the packet was offered to each store
abbrev pub HasPutAll : {B : Type 0} → BoardMeaning B → (start board : B) → (old now : InMemory) → Stored
    → (text : List ℕ) → Type 0
HasPutAll means start board old now stored text =
    HasPut means start board old now stored (length old.directory.stores) text

-- so some packet was, from some board and vault on
abbrev pub IsPut : {B : Type 0} → BoardMeaning B → (board : B) → (now : InMemory) → (text : List ℕ)
    → Type 0
IsPut {B} means board now text =
    (start : B) × (old : InMemory) × (stored : Stored) × HasPutAll means start board old now stored text

-- A vault behind the room that was made in its journal. It is open if that succeeded.
abbrev pub IsAfterRoom : {A E : Type 0} → (old new : InMemory) → Result A E → Type 0
IsAfterRoom old new result = new ≡ record old { journal = new.journal; is_open = is_ok result }

-- A vault behind the commit of a packet that was put. It is open if that succeeded.
abbrev pub IsAfterCommit : {A E : Type 0} → (old new : InMemory) → Result A E → Type 0
IsAfterCommit old new result = new ≡ record old {
  pool = new.pool;
  journal = new.journal;
  is_open = is_ok result;
}

-- A vault behind an arriving packet: how many blocks there are, and the record that is held, are as
-- before. It is open if the packet was put.
abbrev pub IsAfterPut : {A E : Type 0} → (old new : InMemory) → Result A E → Type 0
IsAfterPut old new result = new ≡ record old {
  directory = new.directory;
  indexes = new.indexes;
  lasts = new.lasts;
  pool = new.pool;
  journal = new.journal;
  is_open = is_ok result;
}

-- The work of an arriving packet, for each table that the vault shows: the checkpoint, if the journal
-- has too little room; the pages of a record for each store that takes the packet, and an erase and a
-- barrier for each that takes it into a new block; and the entry.
abbrev pub PutsWithin : {B : Type 0} → BoardMeaning B → (before after : B) → (old : InMemory)
    → (packet : List ℕ) → Type 0
PutsWithin means before after old packet =
    (table : Table) (view : View) → IsViewOf view old → IsTableShown table view
    → let begun = beginners packet table.stores old.directory.stores old.lasts in
    let room = old.journal.room in
    Works 0 (if_short room 85 + charge_of (length packet) * takers packet table.stores + 7)
    (if_short room 7 + begun) (if_short room 13 + begun + 2) (means.counts before)
    (means.counts after)
