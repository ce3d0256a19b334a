use Rattle.pst_laws.proofs.Ahead.{open_kept}
use Rattle.pst_laws.proofs.sending.open_retrievals_send_in_order.Goals as goal

pub returns : goal.returns
returns c = open_kept
