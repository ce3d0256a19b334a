use Rattle.store_policy.proofs.Indexed.{table_indexed}
use Rattle.put_laws.proofs.indexing.shown_tables_are_indexed.Goals as goal

pub returns : goal.returns
returns c = table_indexed
