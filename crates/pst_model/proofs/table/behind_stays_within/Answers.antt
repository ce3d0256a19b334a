use Rattle.pst_model.proofs.Withins.{step_within}
use Rattle.pst_model.proofs.table.behind_stays_within.Goals as goal

pub returns : goal.returns
returns c = step_within
