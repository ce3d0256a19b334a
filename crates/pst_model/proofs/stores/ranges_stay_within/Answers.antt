use Rattle.pst_model.proofs.Ranged.{step_ranged}
use Rattle.pst_model.proofs.stores.ranges_stay_within.Goals as goal

pub returns : goal.returns
returns c = step_ranged
