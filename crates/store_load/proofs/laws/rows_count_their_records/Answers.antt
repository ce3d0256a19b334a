use Rattle.store_load.proofs.Counting.{counts_records}
use Rattle.store_load.proofs.laws.rows_count_their_records.Goals as goal

pub returns : goal.returns
returns c = counts_records
