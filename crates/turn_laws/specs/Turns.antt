-- How the table that a stop leaves goes with the octets that were sent by then, where commands are carried out one after
-- another.
use Rattle.std.specs.Prelude.{◌≤◌, ℕ, ◌-◌, ◌&&◌, nat_lt, if◌then◌else◌, All, List, [], ◌∷◌, ◌++◌, length, take}
use Rattle.board.specs.Moments.{GainsFront}
use Rattle.pst_model.specs.Acknowledged.{acknowledged, acknowledges}
use Rattle.pst_model.specs.Command.{Command}
use Rattle.pst_model.specs.Output.{output_line}
use Rattle.pst_model.specs.Rules.{Output}
use Rattle.pst_model.specs.Run.{lines_of, run}
use Rattle.pst_model.specs.Table.{Table}

-- what goes out for commands on this table, on a device of so many blocks
abbrev pub outputs_of : (blocks : ℕ) → Table → List Command → List Output
outputs_of blocks table commands = (run blocks table commands).outputs

-- the table after the first so many of the commands
abbrev pub table_after : (blocks : ℕ) → Table → List Command → (count : ℕ) → Table
table_after blocks table commands count = (run blocks table (take count commands)).table

-- how many octets the lines for the first so many of the commands have
abbrev pub octets_after : (blocks : ℕ) → Table → List Command → (count : ℕ) → ℕ
octets_after blocks table commands count = length (lines_of (outputs_of blocks table (take count commands)))

-- The number of an output's command, where it is a reply or retrieved line that so many octets do not hold.
abbrev pub if_unsent : Output → (octets : ℕ) → List ℕ
if_unsent output octets =
    if acknowledges output.kind && nat_lt octets (length (output_line output.channel output.packet))
    then output.command ∷ [] else []

-- The numbers of the commands of each reply or retrieved line that is not wholly among the first so many octets of the
-- outputs' lines.
abbrev pub unsent : List Output → (octets : ℕ) → List ℕ
unsent [] octets = []
unsent (output ∷ outputs) octets =
    if_unsent output octets
    ++ unsent outputs (octets - length (output_line output.channel output.packet))

-- The table after the first `kept` commands goes with the octets sent: it has each command that they acknowledge, and of
-- the commands that it has only the last one may have a reply or retrieved line that is not wholly sent.
pub record IsInTurn (blocks : ℕ) (table : Table) (commands : List Command) (octets kept : ℕ) : Type 0 where
  pub within : kept ≤ length commands
  pub acknowledged : acknowledged (outputs_of blocks table commands) octets ≤ kept
  pub ahead : All (λ number. kept ≤ number) (unsent (outputs_of blocks table commands) octets)

-- The same of what was sent by a moment: the octets are those from before, and behind them a prefix of the outputs' lines,
-- with which the table goes.
pub record SendsInTurn (blocks : ℕ) (table : Table) (commands : List Command) (before octets : List ℕ) (kept : ℕ) : Type 0 where
  pub gains : GainsFront before (lines_of (outputs_of blocks table commands)) octets
  pub turn : IsInTurn blocks table commands (length gains.front) kept
