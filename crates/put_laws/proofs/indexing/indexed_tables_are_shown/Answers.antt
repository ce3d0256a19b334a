use Rattle.put_laws.proofs.Indexed.{table_shown}
use Rattle.put_laws.proofs.indexing.indexed_tables_are_shown.Goals as goal

pub returns : goal.returns
returns c = table_shown
