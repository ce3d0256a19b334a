use Rattle.pst_model.proofs.SpelledRequests.{items_in-spelled, none-spelled}
use Rattle.pst_model.proofs.requests.one_reading.Goals as goal

pub returns : goal.returns
returns c = record { items = items_in-spelled; fault = none-spelled }
