use Rattle.meta_journal.proofs.Folds.{one_entry_more}
use Rattle.meta_journal.proofs.laws.halves_hold_one_entry_more.Goals as goal

pub returns : goal.returns
returns c = one_entry_more
