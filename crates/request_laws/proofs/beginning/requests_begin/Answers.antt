use Rattle.request_laws.proofs.Walking.{begins}
use Rattle.request_laws.proofs.beginning.requests_begin.Goals as goal

pub returns : goal.returns
returns c = begins
