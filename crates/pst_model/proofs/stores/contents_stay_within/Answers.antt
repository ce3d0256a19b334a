use Rattle.pst_model.proofs.Filled.{step_filled}
use Rattle.pst_model.proofs.stores.contents_stay_within.Goals as goal

pub returns : goal.returns
returns c = step_filled
