use Rattle.store_put.proofs.Held.{held_in_place}
use Rattle.store_put.proofs.ranges.loaded_stores_are_in_place.Goals as goal

pub returns : goal.returns
returns c = held_in_place
