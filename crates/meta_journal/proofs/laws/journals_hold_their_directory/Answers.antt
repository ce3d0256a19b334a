use Rattle.meta_journal.proofs.Committed.{journal_holds}
use Rattle.meta_journal.proofs.laws.journals_hold_their_directory.Goals as goal

pub returns : goal.returns
returns c blocks flash root d at image enough within journal is = journal_holds blocks flash root d at enough within journal image is
