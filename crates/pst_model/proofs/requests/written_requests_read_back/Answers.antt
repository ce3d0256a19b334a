use Rattle.pst_model.proofs.WrittenRequests.{ReadsBack-packet}
use Rattle.pst_model.proofs.requests.written_requests_read_back.Goals as goal

pub returns : goal.returns
returns c = ReadsBack-packet
