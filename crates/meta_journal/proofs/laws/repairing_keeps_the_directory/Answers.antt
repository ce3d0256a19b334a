use Rattle.meta_journal.proofs.Holding.{repairing_holds}
use Rattle.meta_journal.proofs.laws.repairing_keeps_the_directory.Goals as goal

pub returns : goal.returns
returns c = repairing_holds
