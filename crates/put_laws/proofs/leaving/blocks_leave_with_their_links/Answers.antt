use Rattle.put_laws.proofs.Leaves.{left_unnamed}
use Rattle.put_laws.proofs.leaving.blocks_leave_with_their_links.Goals as goal

pub returns : goal.returns
returns c = left_unnamed
