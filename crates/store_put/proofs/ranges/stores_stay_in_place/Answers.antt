use Rattle.store_put.proofs.Dropped.{left_in_place}
use Rattle.store_put.proofs.Going.{begun_in_place, full_has_room, taken_in_place}
use Rattle.store_put.proofs.ranges.stores_stay_in_place.Goals as goal

pub returns : goal.returns
returns c = record { taken = taken_in_place; begun = begun_in_place; left = left_in_place; room = full_has_room }
