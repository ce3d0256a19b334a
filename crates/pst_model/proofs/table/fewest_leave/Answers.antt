use Rattle.pst_model.proofs.Puts.{to_drop-least}
use Rattle.pst_model.proofs.table.fewest_leave.Goals as goal

pub returns : goal.returns
returns c = to_drop-least
