use Rattle.put_laws.proofs.Indexed.{all_taken, all_told}
use Rattle.put_laws.proofs.indexing.rows_and_indexes_stay_together.Goals as goal

pub returns-clause-told : goal.returns-clause-told
returns-clause-told c = all_told

pub returns-clause-taken : goal.returns-clause-taken
returns-clause-taken c = all_taken
