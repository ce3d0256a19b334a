use Rattle.pst_model.proofs.Orders.{step_order, step_distinct}
use Rattle.pst_model.proofs.stores.stores_stay_in_order.Goals as goal

pub returns : goal.returns
returns c = record { order = step_order; distinct = step_distinct }
