use Rattle.store_directory.proofs.KeptCheckpoints.{read_checkpoint-octets}
use Rattle.store_directory.proofs.Lawful.{lawful-from_kept}
use Rattle.store_directory.proofs.laws.kept_directories_are_read.Goals as goal

pub returns-clause-lawful : goal.returns-clause-lawful
returns-clause-lawful c = lawful-from_kept

pub returns-clause-read : goal.returns-clause-read
returns-clause-read c = read_checkpoint-octets
