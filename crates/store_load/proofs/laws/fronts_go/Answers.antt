use Rattle.store_load.proofs.Going.{front_gone}
use Rattle.store_load.proofs.laws.fronts_go.Goals as goal

pub returns : goal.returns
returns c = front_gone
