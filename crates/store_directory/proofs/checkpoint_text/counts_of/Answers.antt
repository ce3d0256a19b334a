use Rattle.store_directory.proofs.CountTexts.{length-counts_in}
use Rattle.store_directory.proofs.checkpoint_text.counts_of.Goals as goal

pub returns-clause-many : goal.returns-clause-many
returns-clause-many c = length-counts_in c.args.blocks c.args.text.now
