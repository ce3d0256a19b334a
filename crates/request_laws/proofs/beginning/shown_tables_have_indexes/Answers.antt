use Rattle.request_laws.proofs.Indexed.{has_indexes}
use Rattle.request_laws.proofs.beginning.shown_tables_have_indexes.Goals as goal

pub returns : goal.returns
returns c = has_indexes
