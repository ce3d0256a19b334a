use Rattle.meta_journal.proofs.Frame.{journal_same}
use Rattle.meta_journal.proofs.laws.other_pages_may_hold_anything.Goals as goal

pub returns : goal.returns
returns c = journal_same
