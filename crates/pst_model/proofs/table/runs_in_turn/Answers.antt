use Rattle.std.proofs.Common.{ap}
use Rattle.pst_model.specs.Rules.{Step}
use Rattle.pst_model.proofs.Runs.{run_from-append}
use Rattle.pst_model.proofs.table.runs_in_turn.Goals as goal

pub returns-clause-table : goal.returns-clause-table
returns-clause-table c blocks number table a b = ap (λ (step : Step). step.table) (run_from-append blocks number table a b)

pub returns-clause-outputs : goal.returns-clause-outputs
returns-clause-outputs c blocks number table a b = ap (λ (step : Step). step.outputs) (run_from-append blocks number table a b)
