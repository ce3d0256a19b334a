use Rattle.chain_log.proofs.Spelled.{found}
use Rattle.chain_log.proofs.laws.records_are_loaded.Goals as goal

pub returns : goal.returns
returns c = found
