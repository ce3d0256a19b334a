use Rattle.pst_model.proofs.Timed.{step_timed}
use Rattle.pst_model.proofs.stores.times_never_fall.Goals as goal

pub returns : goal.returns
returns c = step_timed
