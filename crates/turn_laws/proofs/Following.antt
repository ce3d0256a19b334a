-- Tables after commands, one run behind another, and what stopped sessions leave.
use Rattle.std.proofs.Common.{◌≡◌, ℕ, ◌+◌, List, [], ◌∷◌, ◌++◌, length, refl, sym, ◌∙◌, ap}
use Rattle.std.proofs.Math.Seq.{take-append-add, take-append_seam}
use Rattle.std.proofs.lemmas.List.{length-take-le}
use Rattle.std.proofs.lemmas.List.Elements.{All-cons, All-nil}
use Rattle.std.specs.Prelude.{All, flat_map}
use Rattle.pst_model.specs.Command.{Command}
use Rattle.pst_model.specs.Rules.{Step}
use Rattle.pst_model.specs.Run.{run, run_from, step}
use Rattle.pst_model.specs.Table.{Table}
use Rattle.pst_model.proofs.Runs.{run-more_table, run_from-append}
use Rattle.turn_laws.specs.Sessions.{KeepsAcknowledged, LeavesTables, Session, kept_of}
use Rattle.turn_laws.specs.Turns.{table_after}
use Rattle.turn_laws.proofs.Tables.{step_table}

-- a run's table does not depend on the numbers of its commands
pub same_table : (blocks number other : ℕ) (table : Table) (commands : List Command) → (run_from blocks number table commands).table ≡ (run_from blocks other table commands).table
same_table blocks number other table [] = refl
same_table blocks number other table (command ∷ commands) =
    ap (λ (next : Table). (run_from blocks (number + 1) next commands).table) (step_table blocks number other table command)
    ∙ same_table blocks (number + 1) (other + 1) (step blocks other command table).table commands

-- the table after commands, and then others
pub tables_follow : (blocks : ℕ) (table : Table) (first second : List Command) → (run blocks table (first ++ second)).table ≡ (run blocks (run blocks table first).table second).table
tables_follow blocks table first second =
    ap (λ (behind : Step). behind.table) (run_from-append blocks 1 table first second)
    ∙ same_table blocks (1 + length first) 1 (run blocks table first).table second

-- the table after the first commands of a list
pub table_done : (blocks : ℕ) (table : Table) (done others : List Command) → table_after blocks table (done ++ others) (length done) ≡ (run blocks table done).table
table_done blocks table done others = ap (λ (first : List Command). (run blocks table first).table) (take-append_seam done others)

pub table_next : (blocks number : ℕ) (table : Table) (done others : List Command) (command : Command)
    → table_after blocks table (done ++ command ∷ others) (length done + 1) ≡ (step blocks number command (run blocks table done).table).table
table_next blocks number table done others command =
    ap (λ (first : List Command). (run blocks table first).table) (take-append-add done (command ∷ others) 1)
    ∙ run-more_table blocks table done command
    ∙ step_table blocks (length done + 1) number (run blocks table done).table command

-- sessions that were stopped
pub last_table : (blocks : ℕ) (table : Table) (sessions : List Session) (last : Table) → LeavesTables blocks table sessions last → last ≡ (run blocks table (flat_map kept_of sessions)).table
last_table blocks table [] last is = is
last_table blocks table (session ∷ sessions) last (begins, turn, others) =
    let next : Table = table_after blocks session.table session.commands session.kept in
    last_table blocks next sessions last others
    ∙ sym (tables_follow blocks session.table (kept_of session) (flat_map kept_of sessions))
    ∙ ap (λ (first : Table). (run blocks first (kept_of session ++ flat_map kept_of sessions)).table) begins

pub all_kept : (blocks : ℕ) (table : Table) (sessions : List Session) (last : Table) → LeavesTables blocks table sessions last → All (KeepsAcknowledged blocks) sessions
all_kept blocks table [] last is = All-nil (KeepsAcknowledged blocks)
all_kept blocks table (session ∷ sessions) last (begins, turn, others) =
    All-cons (KeepsAcknowledged blocks) session sessions
    (record { count = length-take-le session.kept session.commands turn.within; acknowledged = turn.acknowledged })
    (all_kept blocks (table_after blocks session.table session.commands session.kept) sessions last others)
