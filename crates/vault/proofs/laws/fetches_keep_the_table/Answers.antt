use Rattle.vault.proofs.Stopped.{still_stands}
use Rattle.vault.proofs.laws.fetches_keep_the_table.Goals as goal

pub returns : goal.returns
returns c = still_stands
