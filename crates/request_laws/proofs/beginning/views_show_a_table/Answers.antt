use Rattle.request_laws.proofs.Tables.{one_shown}
use Rattle.request_laws.proofs.beginning.views_show_a_table.Goals as goal

pub returns : goal.returns
returns c = one_shown
