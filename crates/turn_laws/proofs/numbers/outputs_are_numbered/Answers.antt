use Rattle.std.proofs.Common.{arith}
use Rattle.std.proofs.lemmas.List.Elements.{All-weaker}
use Rattle.pst_model.specs.Rules.{Output}
use Rattle.std.specs.Prelude.{◌≤◌, ◌+◌, length}
use Rattle.turn_laws.specs.Turns.{outputs_of}
use Rattle.turn_laws.proofs.Numbered.{IsBetween, run_between, run_in_order, step_of}
use Rattle.turn_laws.proofs.numbers.outputs_are_numbered.Goals as goal

pub returns-clause-command : goal.returns-clause-command
returns-clause-command c = step_of

pub returns-clause-range : goal.returns-clause-range
returns-clause-range c blocks table commands =
    All-weaker (IsBetween 1 (1 + length commands)) (λ (output : Output). (1 ≤ output.command) × (output.command ≤ length commands))
    (λ output between. (between.0, omega (arith, between.1))) (outputs_of blocks table commands) (run_between blocks 1 table commands)

pub returns-clause-order : goal.returns-clause-order
returns-clause-order c blocks table commands = run_in_order blocks 1 table commands
