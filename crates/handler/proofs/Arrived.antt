-- What an arriving packet makes durable, and what goes out of it.
use Rattle.std.proofs.Common.{◌≡◌, ℕ, Bool, true, false, List, [], ◌∷◌, ◌++◌, map, Err}
use Rattle.std.specs.Prelude.{◌==◌, ◌&&◌, not, max, if◌then◌else◌, flat_map}
use Rattle.board.specs.Counts.{Rose}
use Rattle.board.specs.Meaning.{BoardMeaning, TellsFlash, TellsLink}
use Rattle.board.specs.Moments.{LeavesOnly, SendsNothing}
use Rattle.control_defs.specs.Patterns.{any_covers}
use Rattle.image_table.specs.Standing.{HoldsEitherTable}
use Rattle.pst_model.specs.Arrivals.{arrive, forwarded_on, offer, offer_report}
use Rattle.pst_model.specs.Replies.{behind_outputs, replies_from}
use Rattle.pst_model.specs.Rules.{Step}
use Rattle.pst_model.specs.Table.{Table}
use Rattle.pus_header.specs.Keys.{key_of}
use Rattle.space_packet.specs.Packet.{apid_of}
use Rattle.store_put.specs.Refusals.{report_of}
use Rattle.vault.specs.Arriving.{IsOutcomeOf}
use Rattle.vault.specs.Fetching.{OnFlash, UnlessFlash}
use Rattle.vault.specs.Memory.{InMemory, IsSound}
use Rattle.vault.specs.Renewing.{DiffersUntold}
use Rattle.vault.specs.Standing.{StandsFor}
use Rattle.vault.specs.declared.fault.VaultFault.{VaultFault}
use Rattle.vault.specs.declared.fault.VaultFault.TheVariants.{Flash, Mismatch}
use Rattle.vault.specs.declared.outcome.StoreOutcome.{StoreOutcome}
use Rattle.handler.proofs.InStep.{IsMade, IsQuiet, answers_flash, answers_mismatch}
use Rattle.handler.specs.Arriving.{forwarded_as, lines_by}
use Rattle.handler.specs.Carrying.{Answers, handler_of}
use Rattle.handler.specs.Faults.{handler_fault_of}

abbrev pub arrive_steps : (moment : ℕ) → (packet : List ℕ) → (number : ℕ) → Table → Step
arrive_steps moment packet number table = arrive number moment packet table

-- The lines of an outcome are those of the model's arrival.
pub arrived_lines : (number moment first : ℕ) (packet : List ℕ) (table : Table) (outcome : StoreOutcome) → first ≡ table.reports → IsOutcomeOf packet table outcome
    → lines_by number moment first outcome.forwarded packet outcome.refused.items ≡ (arrive number moment packet table).outputs
arrived_lines number moment first packet table outcome first_is is = by (apid_of packet == 2047) is.forwarded is.refused
  where
    by : (idle : Bool) → outcome.forwarded ≡ (not idle && any_covers table.forward (key_of packet))
        → ((time : ℕ) → map report_of outcome.refused.items ≡ (if idle then [] else flat_map (offer_report (record { time = time; octets = packet })) table.stores))
        → lines_by number moment first outcome.forwarded packet outcome.refused.items
        ≡ (if idle then record { table = record table { now = max table.now moment }; outputs = [] }
        else behind_outputs (forwarded_on number packet table) (offer number moment (record { time = max table.now moment; octets = packet }) table)).outputs
    by true forwarded refused =
        λ i. (if forwarded i then forwarded_as number packet ∷ [] else []) ++ replies_from number moment first (refused 0 i)
    by false forwarded refused =
        λ i. (if forwarded i then forwarded_as number packet ∷ [] else []) ++ replies_from number moment (first_is i) (refused (max table.now moment) i)

module _ {B : Type 0} (means : BoardMeaning B) (old mid : B) (before after : InMemory) (moment : ℕ) (packet : List ℕ)
    (any_moment : TellsFlash means old → (table : Table) (number : ℕ) → StandsFor before (means.flash old) table
    → LeavesOnly means old mid (HoldsEitherTable before.blocks table (arrive number moment packet table).table))
    (unsent : TellsLink means old → SendsNothing means old mid) (same : means.device mid ≡ means.device old)
    (link : (means.counts mid).link_faults ≡ (means.counts old).link_faults) (sends : (means.counts mid).sends ≡ (means.counts old).sends) where
  arrival_quiet : IsQuiet means old mid before (arrive_steps moment packet)
  arrival_quiet = record { either = any_moment; unsent = unsent; same = same; link = link; sends = sends }

  pub arrival_made : (TellsFlash means old → (table : Table) (number : ℕ) → StandsFor before (means.flash old) table
      → StandsFor after (means.flash mid) (arrive number moment packet table).table)
      → IsSound after → after.blocks ≡ before.blocks → (means.counts mid).flash_faults ≡ (means.counts old).flash_faults
      → IsMade means old mid before after (arrive_steps moment packet)
  arrival_made stands sound blocks no_fault = record { quiet = arrival_quiet; stands = stands; sound = sound; blocks = blocks; flash = no_fault }

  -- it failed
  pub arrival_failed : (A : Type 0) (fault : VaultFault) → OnFlash {A = A} (Err fault) (Rose (means.counts old).flash_faults (means.counts mid).flash_faults)
      → UnlessFlash {A = A} (Err fault) ((means.counts mid).flash_faults ≡ (means.counts old).flash_faults) → DiffersUntold (TellsFlash means old) fault
      → Answers means old mid (handler_of before true) (handler_of after false) (arrive_steps moment packet) (Err (handler_fault_of fault))
  arrival_failed A Flash rose no_fault differs = answers_flash means old mid before (arrive_steps moment packet) arrival_quiet after rose
  arrival_failed A (Mismatch block page kept found) rose no_fault differs =
      answers_mismatch means old mid before (arrive_steps moment packet) arrival_quiet after block page kept found differs.0 differs.1 no_fault
