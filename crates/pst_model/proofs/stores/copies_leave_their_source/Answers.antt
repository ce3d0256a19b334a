use Rattle.pst_model.proofs.Copied.{copied}
use Rattle.pst_model.proofs.stores.copies_leave_their_source.Goals as goal

pub returns : goal.returns
returns c = copied
