use Rattle.chain_log.proofs.Spelled.{stays}
use Rattle.chain_log.proofs.laws.records_stay.Goals as goal

pub returns : goal.returns
returns c = stays
