use Rattle.put_laws.proofs.Clocks.{begins}
use Rattle.put_laws.proofs.walking.walks_begin.Goals as goal

pub returns : goal.returns
returns c = begins
