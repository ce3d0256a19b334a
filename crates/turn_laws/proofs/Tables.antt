-- The table after a command does not depend on the command's number.
use Rattle.std.proofs.Common.{◌≡◌, ℕ, Bool, true, false, List, [], Option, Some, None, refl}
use Rattle.std.specs.Prelude.{◌==◌, find, if◌then◌else◌, max}
use Rattle.space_packet.specs.Packet.{apid_of}
use Rattle.pst_model.specs.declared.verdicts.Verdict.{Verdict}
use Rattle.pst_model.specs.Answers.{answer_by, refusal_of}
use Rattle.pst_model.specs.Arrivals.{forwarded_on, offer}
use Rattle.pst_model.specs.Command.{Command, Arrival, Request, Grant, Idle}
use Rattle.pst_model.specs.Replies.{behind_outputs}
use Rattle.pst_model.specs.Rules.{Step, grant_open, grant_range, has_ahead, has_range}
use Rattle.pst_model.specs.Run.{step}
use Rattle.pst_model.specs.Table.{Store, Table}

module _ (blocks number other : ℕ) (table : Table) where
  request_table : (moment : ℕ) (packet : List ℕ) (refusal : Option Verdict)
      → (answer_by blocks number moment packet table refusal).table ≡ (answer_by blocks other moment packet table refusal).table
  request_table moment packet (Some verdict) = refl
  request_table moment packet None = refl

  grant_table : (ranged : Option Store) → (grant_range number table ranged).table ≡ (grant_range other table ranged).table
  grant_table (Some store) = refl
  grant_table None = by (find has_ahead table.stores)
    where
      by : (store : Option Store) → (grant_open number table store).table ≡ (grant_open other table store).table
      by (Some store) = refl
      by None = refl

  arrival_table : (moment : ℕ) (packet : List ℕ) → (step blocks number (Arrival moment packet) table).table ≡ (step blocks other (Arrival moment packet) table).table
  arrival_table moment packet = by (apid_of packet == 2047)
    where
      now : ℕ
      now = max table.now moment

      arrived : Bool → ℕ → Step
      arrived idle n =
          if idle then record { table = record table { now = now }; outputs = [] }
          else behind_outputs (forwarded_on n packet table) (offer n moment (record { time = now; octets = packet }) table)

      by : (idle : Bool) → (arrived idle number).table ≡ (arrived idle other).table
      by true = refl
      by false = refl

  pub step_table : (command : Command) → (step blocks number command table).table ≡ (step blocks other command table).table
  step_table (Arrival moment packet) = arrival_table moment packet
  step_table (Request moment packet) = request_table moment packet (refusal_of packet)
  step_table (Grant moment) = grant_table (find has_range table.stores)
  step_table (Idle moment) = refl
