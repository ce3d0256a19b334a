use Rattle.store_load.proofs.Held.{in_range}
use Rattle.store_load.proofs.laws.loaded_stores_are_in_range.Goals as goal

pub returns : goal.returns
returns c = in_range
