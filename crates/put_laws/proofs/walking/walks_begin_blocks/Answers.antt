use Rattle.put_laws.proofs.Beginning.{begins}
use Rattle.put_laws.proofs.walking.walks_begin_blocks.Goals as goal

pub returns : goal.returns
returns c = begins
