use Rattle.store_directory.proofs.Sames.{directories_decided}
use Rattle.store_directory.proofs.laws.directories_are_compared.Goals as goal

pub returns : goal.returns
returns c = directories_decided
