use Rattle.pst_laws.proofs.Ranges.{ranges_kept}
use Rattle.pst_laws.proofs.sending.ranges_send_in_order.Goals as goal

pub returns : goal.returns
returns c = ranges_kept
