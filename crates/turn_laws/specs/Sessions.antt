-- Sessions one after another, each stopped at a moment of its own.
use Rattle.std.specs.Prelude.{◌≡◌, ◌≤◌, ℕ, List, [], ◌∷◌, length, take}
use Rattle.pst_model.specs.Acknowledged.{acknowledged}
use Rattle.pst_model.specs.Command.{Command}
use Rattle.pst_model.specs.Table.{Table}
use Rattle.turn_laws.specs.Turns.{IsInTurn, outputs_of, table_after}

-- A session that was stopped: the table on which it began, the commands that it read, how many octets of their lines it
-- had sent by then, and how many of the commands are in the table that is left.
pub record Session : Type 0 where
  pub table : Table
  pub commands : List Command
  pub octets : ℕ
  pub kept : ℕ

abbrev pub kept_of : Session → List Command
kept_of session = take session.kept session.commands

-- Sessions, the first of which begins on this table, and each other one on the table that the one before left. The last
-- table is left in the end.
abbrev pub LeavesTables : (blocks : ℕ) → Table → List Session → (last : Table) → Type 0
LeavesTables blocks table [] last = last ≡ table
LeavesTables blocks table (session ∷ sessions) last =
    (session.table ≡ table)
    × IsInTurn blocks session.table session.commands session.octets session.kept
    × LeavesTables blocks (table_after blocks session.table session.commands session.kept) sessions last

-- The kept commands are a prefix of those read, with each that the session's octets acknowledge.
pub record KeepsAcknowledged (blocks : ℕ) (session : Session) : Type 0 where
  pub count : length (kept_of session) ≡ session.kept
  pub acknowledged : acknowledged (outputs_of blocks session.table session.commands) session.octets ≤ session.kept
