use Rattle.put_laws.proofs.Ending.{ends, folds}
use Rattle.put_laws.proofs.walking.walks_end.Goals as goal

pub returns-clause-entry : goal.returns-clause-entry
returns-clause-entry c = folds

pub returns-clause-table : goal.returns-clause-table
returns-clause-table c = ends
