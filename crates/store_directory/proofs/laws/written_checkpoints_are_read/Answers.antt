use Rattle.store_directory.proofs.WrittenCheckpoints.{checkpoint_in-octets}
use Rattle.store_directory.proofs.laws.written_checkpoints_are_read.Goals as goal

pub returns : goal.returns
returns c = checkpoint_in-octets
