use Rattle.meta_journal.proofs.Staying.{journal_stays}
use Rattle.meta_journal.proofs.laws.other_blocks_may_change.Goals as goal

pub returns : goal.returns
returns c = journal_stays
