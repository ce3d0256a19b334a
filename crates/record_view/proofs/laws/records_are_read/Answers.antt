use Rattle.record_view.proofs.Spelling.{read_spelled, spells_read}
use Rattle.record_view.proofs.laws.records_are_read.Goals as goal

pub returns : goal.returns
returns c = λ block number page meaning whole.
    (spells_read block number page meaning whole, read_spelled block number page meaning)
