use Rattle.store_directory.proofs.WrittenChanges.{changes_in-octets}
use Rattle.store_directory.proofs.laws.written_entries_are_read.Goals as goal

pub returns : goal.returns
returns c = changes_in-octets
