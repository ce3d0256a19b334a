-- A run of commands, and the text of what goes out.
use Rattle.std.specs.Prelude.{ℕ, ◌+◌, List, [], ◌∷◌, ◌++◌}
use Rattle.pst_model.specs.Answers.{answer}
use Rattle.pst_model.specs.Arrivals.{arrive}
use Rattle.pst_model.specs.Command.{Command, Arrival, Request, Grant, Idle}
use Rattle.pst_model.specs.Output.{output_line}
use Rattle.pst_model.specs.Replies.{behind_outputs}
use Rattle.pst_model.specs.Rules.{Output, Step, grant}
use Rattle.pst_model.specs.Table.{Table}

-- a command on a device of so many blocks
abbrev pub step : (blocks number : ℕ) → Command → Table → Step
step blocks number (Arrival moment packet) table = arrive number moment packet table
step blocks number (Request moment packet) table = answer blocks number moment packet table
step blocks number (Grant moment) table = grant number table
step blocks number (Idle moment) table = record { table = table; outputs = [] }

-- the run of commands, the first of which has this number
abbrev pub run_from : (blocks number : ℕ) → Table → List Command → Step
run_from blocks number table [] = record { table = table; outputs = [] }
run_from blocks number table (command ∷ commands) =
    behind_outputs (step blocks number command table).outputs
    (run_from blocks (number + 1) (step blocks number command table).table commands)

-- The table after the commands on a device of so many blocks, which are counted from 1, and all that
-- goes out.
abbrev pub run : (blocks : ℕ) → Table → List Command → Step
run blocks table commands = run_from blocks 1 table commands

-- the lines of outputs
abbrev pub lines_of : List Output → List ℕ
lines_of [] = []
lines_of (output ∷ outputs) = output_line output.channel output.packet ++ lines_of outputs
