use Rattle.store_load.proofs.MovedIndexes.{record_indexed}
use Rattle.store_load.proofs.indexes.indexes_get_their_records.Goals as goal

pub returns : goal.returns
returns c = record_indexed
