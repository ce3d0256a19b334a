use Rattle.store_put.proofs.StaysOn.{stays_behind, stays_unnamed}
use Rattle.store_put.proofs.staying.walks_stay_beside_new_records.Goals as goal

pub returns : goal.returns
returns c = record { unnamed = stays_unnamed; behind = stays_behind }
