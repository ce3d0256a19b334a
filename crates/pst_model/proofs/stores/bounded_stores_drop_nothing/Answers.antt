use Rattle.pst_model.proofs.Filled.{bounded-keeps}
use Rattle.pst_model.proofs.stores.bounded_stores_drop_nothing.Goals as goal

pub returns : goal.returns
returns c = bounded-keeps
