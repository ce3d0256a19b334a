use Rattle.std.proofs.Common.{ℕ, ◌+◌, Result, ap}
use Rattle.pst_model.specs.Answers.{carried_by, carry_out_from}
use Rattle.pst_model.specs.Table.{Table}
use Rattle.pst_model.proofs.table.failed_instructions_change_nothing.Goals as goal

pub returns : goal.returns
returns c blocks number code item items table is =
    ap (λ (outcome : Result Table ℕ). carried_by number table outcome (carry_out_from blocks (number + 1) items)) is
