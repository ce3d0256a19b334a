use Rattle.pst_model.proofs.Counted.{step_counted}
use Rattle.pst_model.proofs.table.reports_are_counted.Goals as goal

pub returns : goal.returns
returns c = step_counted
