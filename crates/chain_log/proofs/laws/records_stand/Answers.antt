use Rattle.chain_log.proofs.Spelled.{stands}
use Rattle.chain_log.proofs.laws.records_stand.Goals as goal

pub returns : goal.returns
returns c = stands
