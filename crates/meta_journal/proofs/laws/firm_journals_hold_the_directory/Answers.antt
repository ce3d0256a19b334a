use Rattle.meta_journal.proofs.Standing.{journal_of}
use Rattle.meta_journal.proofs.Switched.{standing_holds}
use Rattle.meta_journal.proofs.laws.firm_journals_hold_the_directory.Goals as goal

pub returns : goal.returns
returns c = record {
  images = λ blocks flash d image enough still held is. standing_holds blocks flash d enough still held image is;
  journal = λ blocks flash d j some stands still held. journal_of j flash some stands blocks still d held;
}
