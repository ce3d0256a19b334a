use Rattle.pst_model.proofs.Filled.{step_configured}
use Rattle.pst_model.proofs.stores.configurations_stay_lawful.Goals as goal

pub returns : goal.returns
returns c = step_configured
