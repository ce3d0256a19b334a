use Rattle.meta_journal.proofs.Holding.{rooted_holds}
use Rattle.meta_journal.proofs.laws.rooted_images_hold_the_directory.Goals as goal

pub returns : goal.returns
returns c = rooted_holds
