use Rattle.commit_gate.proofs.EntriesRead.{entries_found, entries_read}
use Rattle.commit_gate.proofs.laws.entries_are_read.Goals as goal

pub returns : goal.returns
returns c = record { read = entries_read; has = entries_found 512 }
