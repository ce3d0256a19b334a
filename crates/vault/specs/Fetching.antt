-- One record of a store, read from the flash.
use Rattle.std.specs.Prelude.{◌≡◌, ◌≢◌, ◌<◌, ⊤, ℕ, ◌+◌, ◌%◌, ◌^◌, is_ok}
use Rattle.std.specs.Prelude.{List, length, slice_get, Option, Some, None, Result, Ok, Err}
use Rattle.std.specs.Option.{IsSomeAnd}
use Rattle.chain_log.specs.declared.place.LoadFault.{LoadFault}
use Rattle.chain_log.specs.declared.place.LoadFault.TheVariants as loads
use Rattle.chain_log.specs.declared.place.Place.{Place}
use Rattle.pst_model.specs.Table.{Table}
use Rattle.record_view.specs.Records.{Meaning}
use Rattle.record_view.specs.declared.view.RecordView.{RecordView}
use Rattle.space_packet.specs.Charge.{charge_of}
use Rattle.space_packet.specs.View.{octets_of}
use Rattle.time_index.specs.TimeIndex.{TimeIndex}
use Rattle.time_index.specs.declared.entry.Entry.{Entry}
use Rattle.vault.specs.Memory.{InMemory}
use Rattle.vault.specs.declared.fault.VaultFault.{VaultFault}
use Rattle.vault.specs.declared.fault.VaultFault.TheVariants.{Flash, Mismatch}

abbrev pub vault_fault_of : LoadFault → VaultFault
vault_fault_of loads.Flash = Flash
vault_fault_of (loads.Mismatch block page kept found) = Mismatch block page kept found

-- The record of this meaning is kept, if the flash did not fail.
abbrev pub KeepsRecord : {A : Type 0} → Meaning → Result A LoadFault → Meaning → Type 0
KeepsRecord meaning (Ok answer) held = held ≡ meaning
KeepsRecord meaning (Err loads.Flash) held = ⊤
KeepsRecord meaning (Err (loads.Mismatch block page kept found)) held = ⊥

-- a store of the vault has a packet at this position
abbrev pub IsPosition : InMemory → (at position : ℕ) → Type 0
IsPosition vault at position =
    IsSomeAnd (slice_get vault.indexes at) (λ index. position < length index.entries)

-- the index of a store, and its entry at a position
abbrev pub AtPosition : InMemory → (at position : ℕ) → (TimeIndex → Entry → Type 0) → Type 0
AtPosition vault at position P =
    IsSomeAnd (slice_get vault.indexes at) (λ index.
    IsSomeAnd (slice_get index.entries position) (λ entry. P index entry))

-- the place and the number of the record at a position
abbrev pub IsRecordAt : InMemory → (at position : ℕ) → Place → (number : ℕ) → Type 0
IsRecordAt vault at position place number =
    AtPosition vault at position (λ index entry.
    (place ≡ record { block = entry.block; page = entry.page; length = entry.length })
    × (number ≡ (index.first + position) % 2 ^ 32))

-- the pages of the record at a position

abbrev pub charge_in : Option Entry → ℕ
charge_in (Some entry) = charge_of entry.length
charge_in None = 0

abbrev pub charge_by : Option TimeIndex → (position : ℕ) → ℕ
charge_by (Some index) position = charge_in (slice_get index.entries position)
charge_by None position = 0

abbrev pub charge_at : InMemory → (at position : ℕ) → ℕ
charge_at vault at position = charge_by (slice_get vault.indexes at) position

-- A vault after a fetch: another record is held, and it is open if the fetch succeeded.
abbrev pub IsAfterFetch : {A E : Type 0} → (old new : InMemory) → Result A E → Type 0
IsAfterFetch old new result = new ≡ record old { held = new.held; is_open = is_ok result }

-- the table has a packet of this time and these octets at a position of a store
abbrev pub HasPacket : Table → (at position stamp : ℕ) → (packet : List ℕ) → Type 0
HasPacket table at position stamp packet =
    IsSomeAnd (slice_get table.stores at) (λ store.
    IsSomeAnd (slice_get store.packets position) (λ stored.
    (stamp ≡ stored.time) × (packet ≡ stored.octets)))

-- What is held after a fetch is that packet, unless the flash failed.
abbrev pub Holds : {A : Type 0} → Table → (at position : ℕ) → Result A VaultFault → Meaning → Type 0
Holds table at position (Ok answer) held = HasPacket table at position held.stamp held.packet
Holds table at position (Err Flash) held = ⊤
Holds table at position (Err (Mismatch block page kept found)) held = ⊥

-- so is what a fetch answers
abbrev pub Answers : Table → (at position : ℕ) → Result RecordView VaultFault → Type 0
Answers table at position (Ok view) =
    HasPacket table at position view.stamp (octets_of view.packet)
Answers table at position (Err Flash) = ⊤
Answers table at position (Err (Mismatch block page kept found)) = ⊥

-- A mismatch names the place of the record, and two numbers that differ.
abbrev pub TellsDifference : InMemory → (at position : ℕ) → VaultFault → Type 0
TellsDifference vault at position Flash = ⊤
TellsDifference vault at position (Mismatch block page kept found) =
    AtPosition vault at position (λ index entry. (block ≡ entry.block) × (page ≡ entry.page))
    × (kept ≢ found)

-- something that holds where the flash failed, and where it did not

abbrev pub OnFlash : {A : Type 0} → Result A VaultFault → Type 0 → Type 0
OnFlash (Err Flash) P = P
OnFlash answer P = ⊤

abbrev pub UnlessFlash : {A : Type 0} → Result A VaultFault → Type 0 → Type 0
UnlessFlash (Err Flash) P = ⊤
UnlessFlash answer P = P
