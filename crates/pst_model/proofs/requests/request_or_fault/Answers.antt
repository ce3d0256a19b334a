use Rattle.pst_model.proofs.SpelledRequests.{none-or_spelled}
use Rattle.pst_model.proofs.requests.request_or_fault.Goals as goal

pub returns : goal.returns
returns c = none-or_spelled
