-- What a turn of a session makes of the answers of the reader and of the handler.
use Rattle.std.proofs.Common.{◌≡◌, ℕ, Option, Some, None, Result, Ok, Err, sym, ap, subst}
use Rattle.std.specs.Prelude.{OnOk}
use Rattle.board.specs.Counts.{Rose}
use Rattle.board.specs.Meaning.{BoardMeaning, SourceMeaning}
use Rattle.handler.specs.Carrying.{Answers, Held}
use Rattle.handler.specs.declared.fault.HandlerFault.{HandlerFault}
use Rattle.handler.specs.declared.fault.HandlerFault.TheVariants as faults
use Rattle.station.specs.declared.ending.Ending.{Ending}
use Rattle.station.specs.declared.ending.Ending.TheVariants.{BadLine, Done, SourceFault}
use Rattle.station.specs.declared.tally.Tally.{Tally}
use Rattle.station.specs.Carrying.{Carried, Ended}
use Rattle.station.specs.Endings.{ending_after}
use Rattle.station.specs.Tallies.{and_sent}
use Rattle.station.specs.Working.{TurnWorks}
use Rattle.station.proofs.Commands.{steps_of}
use Rattle.station.proofs.Progress.{Steps, ended_bad, ended_done, ended_finished, ended_flash, ended_link, ended_memory, ended_mismatch, ended_source, goes_further}
use Rattle.pst_model.specs.declared.faults.LineFault.{LineFault}
use Rattle.report_lines.specs.declared.sent.Sent.{Sent}
use Rattle.session_text.specs.declared.command.Command.{Command as View}
use Rattle.session_text.specs.declared.fault.LineEnd.{LineEnd}
use Rattle.session_text.specs.declared.fault.LineEnd.TheVariants as ends
use Rattle.session_text.specs.Lending.{turn_of}
use Rattle.session_text.specs.Reader.{Reader}
use Rattle.session_text.specs.Shown.{command_of}
use Rattle.session_text.specs.Turns.{Turn}
use Rattle.vault.specs.Memory.{InMemory, IsSound}

-- the answer of a reader, and what it left
module _ {S : Type 0} (input : SourceMeaning S) (reader reader' : Reader) (source source' : S) (result : Result (Option View) LineEnd)
    (steps : Steps input reader reader' source source' (turn_of result)) where
  steps_as : (answer : Result (Option View) LineEnd) → result ≡ answer → Steps input reader reader' source source' (turn_of answer)
  steps_as answer is = subst (λ (turn : Turn). Steps input reader reader' source source' turn) (ap turn_of is) steps

  module _ {B : Type 0} (means : BoardMeaning B) (first board : B) (origin : S) (begun : InMemory) (opened : Held)
      (of_board : opened.vault.blocks ≡ (means.device board).blocks) (tally : Tally) (carried : Carried means input first board origin source begun reader opened.vault tally) where
    -- the session ends behind what was pending
    module _ (board' : B) (ending : Ending) (same : board' ≡ board) (sound : IsSound opened.vault) where
      pub done_by : ending ≡ Done → result ≡ Ok None → input.faults source' ≡ input.faults source → Ended means input first board' origin source' begun ending tally
      done_by eq is kept = ended_finished means input first board board' origin source' begun Done ending tally same eq
          (ended_done means input first board origin source begun opened reader tally carried of_board sound source' reader' (steps_as (Ok None) is) kept)

      pub bad_by : (line : ℕ) (why : LineFault) → ending ≡ BadLine line why → result ≡ Err (ends.Bad line why) → input.faults source' ≡ input.faults source
          → Ended means input first board' origin source' begun ending tally
      bad_by line why eq is kept = ended_finished means input first board board' origin source' begun (BadLine line why) ending tally same eq
          (ended_bad means input first board origin source begun opened reader tally carried of_board sound source' reader' line why (steps_as (Err (ends.Bad line why)) is) kept)

      pub source_by : ending ≡ SourceFault → result ≡ Err ends.Source → Rose (input.faults source) (input.faults source')
          → Ended means input first board' origin source' begun ending tally
      source_by eq is rose = ended_finished means input first board board' origin source' begun SourceFault ending tally same eq
          (ended_source means input first board origin source begun opened reader tally carried of_board sound source' reader' (steps_as (Err ends.Source) is) rose)

    -- what came of the command
    module _ (command : View) (is : result ≡ Ok (Some command)) (kept : input.faults source' ≡ input.faults source) (board' : B) (after : Held) (answer : Result Sent HandlerFault)
        (answers : Answers means board board' opened after (steps_of (means.device board).blocks (command_of command)) answer)
        (works : OnOk answer (TurnWorks means board board' (command_of command) opened.vault after.vault)) where
      as_answer : (other : Result Sent HandlerFault) → answer ≡ other → Answers means board board' opened after (steps_of (means.device board).blocks (command_of command)) other
      as_answer other is = subst (λ (r : Result Sent HandlerFault). Answers means board board' opened after (steps_of (means.device board).blocks (command_of command)) r) is answers

      pub carried_by : (sent : Sent) → answer ≡ Ok sent → (tally' : Tally) → tally' ≡ and_sent tally sent → Carried means input first board' origin source' begun reader' after.vault tally'
      carried_by sent eq tally' counted = subst (λ (t : Tally). Carried means input first board' origin source' begun reader' after.vault t) (sym counted) (goes_further means input first board origin source begun opened reader tally carried of_board source' reader' (command_of command) (steps_as (Ok (Some command)) is) kept board' after
          sent (as_answer (Ok sent) eq) (subst (λ (r : Result Sent HandlerFault). OnOk r (TurnWorks means board board' (command_of command) opened.vault after.vault)) eq works))

      -- the session ends as the fault says
      pub fault_by : (fault : HandlerFault) → answer ≡ Err fault → Ended means input first board' origin source' begun (ending_after fault) tally
      fault_by faults.Link eq = ended_link means input first board origin source begun opened reader tally carried of_board source' reader' (command_of command) (steps_as (Ok (Some command)) is) kept board' after
          (as_answer (Err faults.Link) eq)
      fault_by faults.Flash eq = ended_flash means input first board origin source begun opened reader tally carried of_board source' reader' (command_of command) (steps_as (Ok (Some command)) is) kept board' after
          (as_answer (Err faults.Flash) eq)
      fault_by (faults.Mismatch block page kept' found) eq =
          ended_mismatch means input first board origin source begun opened reader tally carried of_board source' reader' (command_of command) (steps_as (Ok (Some command)) is) kept board' after
          block page kept' found (as_answer (Err (faults.Mismatch block page kept' found)) eq)
      fault_by faults.NoMemory eq = ended_memory means input first board origin source begun opened reader tally carried of_board source' reader' (command_of command) (steps_as (Ok (Some command)) is) kept board' after
          (as_answer (Err faults.NoMemory) eq)
