use Rattle.pst_model.proofs.SpelledRequests.{nothing_more}
use Rattle.pst_model.proofs.requests.no_spelling_begins_another.Goals as goal

pub returns : goal.returns
returns c = nothing_more
