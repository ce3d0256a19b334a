use Rattle.store_load.proofs.Indexed.{index_kept, no_index}
use Rattle.store_load.proofs.laws.indexes_list_the_kept_records.Goals as goal

pub returns-clause-listed : goal.returns-clause-listed
returns-clause-listed c = index_kept

pub returns-clause-none : goal.returns-clause-none
returns-clause-none c = no_index
