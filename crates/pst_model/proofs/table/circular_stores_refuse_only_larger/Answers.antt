use Rattle.pst_model.proofs.Puts.{circular-not_refused}
use Rattle.pst_model.proofs.table.circular_stores_refuse_only_larger.Goals as goal

pub returns : goal.returns
returns c = circular-not_refused
