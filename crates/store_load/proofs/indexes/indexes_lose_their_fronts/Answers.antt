use Rattle.store_load.proofs.MovedIndexes.{front_indexed}
use Rattle.store_load.proofs.indexes.indexes_lose_their_fronts.Goals as goal

pub returns : goal.returns
returns c = front_indexed
