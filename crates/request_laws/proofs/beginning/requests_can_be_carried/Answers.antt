use Rattle.request_laws.proofs.Asked.{can_be_carried}
use Rattle.request_laws.proofs.beginning.requests_can_be_carried.Goals as goal

pub returns : goal.returns
returns c = can_be_carried
