use Rattle.record_view.proofs.Placing.{placed_is_read}
use Rattle.record_view.proofs.laws.written_records_are_read.Goals as goal

pub returns : goal.returns
returns c = placed_is_read
