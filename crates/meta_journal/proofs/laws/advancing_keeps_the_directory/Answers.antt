use Rattle.meta_journal.proofs.Holding.{advancing_holds}
use Rattle.meta_journal.proofs.laws.advancing_keeps_the_directory.Goals as goal

pub returns : goal.returns
returns c = advancing_holds
