-- A packet that arrives, as the world sees it.
use Rattle.std.specs.Prelude.{◌≡◌, ℕ, ◌+◌, ◌==◌, ◌&&◌, not, true, false, if◌then◌else◌, List, [], map, flat_map, slice_get, Some, Result, IfErr, OnOk}
use Rattle.board.specs.Counts.{Rose, Works}
use Rattle.board.specs.Meaning.{BoardMeaning, TellsFlash, TellsLink}
use Rattle.board.specs.Moments.{LeavesOnly, SendsNothing}
use Rattle.control_defs.specs.Patterns.{any_covers}
use Rattle.image_table.specs.Standing.{HoldsEitherTable}
use Rattle.meta_journal.specs.Standing as journals
use Rattle.pst_model.specs.Arrivals.{arrive, offer_report}
use Rattle.pst_model.specs.Reports.{Report}
use Rattle.pst_model.specs.Table.{Store, Stored, Table}
use Rattle.pus_header.specs.Keys.{key_of}
use Rattle.space_packet.specs.Packet.{apid_of}
use Rattle.store_directory.specs.Directory.{Listed}
use Rattle.store_policy.specs.Shown.{IsStoreShown}
use Rattle.store_put.specs.Refusals.{report_of}
use Rattle.time_index.specs.TimeIndex.{TimeIndex}
use Rattle.vault.specs.Changing.{RoomAfter, if_short}
use Rattle.vault.specs.Fetching.{OnFlash, UnlessFlash}
use Rattle.vault.specs.Memory.{InMemory, IsSound}
use Rattle.vault.specs.Putting.{IsAfterPut, PutsWithin}
use Rattle.vault.specs.Renewing.{DiffersUntold, LeavesLink}
use Rattle.vault.specs.Standing.{StandsFor}
use Rattle.vault.specs.Storing.{AreFreshFor, takes}
use Rattle.vault.specs.declared.fault.VaultFault.{VaultFault}
use Rattle.vault.specs.declared.last_block.LastBlock.{LastBlock}
use Rattle.vault.specs.declared.outcome.StoreOutcome.{StoreOutcome}

-- the reports of the stores that refuse an arriving packet: an idle one is offered to none
abbrev pub reports_on : Stored → Table → List Report
reports_on stored table =
    if apid_of stored.octets == 2047 then [] else flat_map (offer_report stored) table.stores

-- What an arriving packet did, by the table from before: whether it is forwarded, and the refusals of
-- which the stores report. These do not depend on the time.
pub record IsOutcomeOf (packet : List ℕ) (table : Table) (outcome : StoreOutcome) : Type 0 where
  pub forwarded : outcome.forwarded
      ≡ (not (apid_of packet == 2047) && any_covers table.forward (key_of packet))
  pub refused : (time : ℕ) → map report_of outcome.refused.items
      ≡ reports_on (record { time = time; octets = packet }) table

-- No last block is stale that was not. If the packet is not idle, none of a store that took it is.
pub record IsFreshenedBy (packet : List ℕ) (old new : InMemory) : Type 0 where
  pub stale : (place : ℕ) (was last : LastBlock) → slice_get old.lasts place ≡ Some was
      → slice_get new.lasts place ≡ Some last → last.stale ≡ true → was.stale ≡ true
  pub taken : (apid_of packet == 2047) ≡ false
      → (place : ℕ) (s : Listed) (index : TimeIndex) (store : Store) (last : LastBlock)
      → slice_get old.directory.stores place ≡ Some s → slice_get old.indexes place ≡ Some index
      → IsStoreShown store s index → takes packet store ≡ true
      → slice_get new.lasts place ≡ Some last → last.stale ≡ false

-- A packet arrived at a vault. At each moment, also if a call failed, each image holds the table from
-- before or the one behind the arrival; if none failed, the vault stands for the latter.
pub record Arrives {A B : Type 0} (means : BoardMeaning B) (old new : B) (was now : InMemory)
    (moment : ℕ) (packet : List ℕ) (result : Result A VaultFault) : Type 0 where
  pub any_moment : TellsFlash means old → (table : Table) (number : ℕ)
      → StandsFor was (means.flash old) table
      → LeavesOnly means old new
      (HoldsEitherTable was.blocks table (arrive number moment packet table).table)
  pub stands : OnOk result (TellsFlash means old → (table : Table) (number : ℕ)
      → StandsFor was (means.flash old) table
      → StandsFor now (means.flash new) (arrive number moment packet table).table)
  pub after : IsAfterPut was now result
  pub sound : OnOk result (IsSound now)
  pub journal : OnOk result (TellsFlash means old → journals.StandsFor now.journal (means.flash new))
  pub fresh : OnOk result (IsFreshenedBy packet was now)
  pub quiet : TellsLink means old → SendsNothing means old new
  pub link : LeavesLink (means.counts old) (means.counts new)
  pub same : means.device new ≡ means.device old
  pub work : AreFreshFor packet was → PutsWithin means old new was packet
  -- an idle packet is put into no store
  pub idle_work : (apid_of packet == 2047) ≡ true
      → Works 0 (if_short was.journal.room 85 + 2) (if_short was.journal.room 7)
      (if_short was.journal.room 13 + 2) (means.counts old) (means.counts new)
  pub room : OnOk result (AreFreshFor packet was
      → RoomAfter 7 was.journal.room now.journal.room)
  pub mismatch : IfErr result (DiffersUntold (TellsFlash means old))
  pub no_fault : UnlessFlash result ((means.counts new).flash_faults ≡ (means.counts old).flash_faults)
  pub cause : OnFlash result (Rose (means.counts old).flash_faults (means.counts new).flash_faults)
