use Rattle.pst_model.proofs.Orders.{step_few}
use Rattle.pst_model.proofs.stores.stores_stay_few.Goals as goal

pub returns : goal.returns
returns c = step_few
