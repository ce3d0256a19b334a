use Rattle.vault.proofs.Stopped.{one_table}
use Rattle.vault.proofs.laws.tables_are_one.Goals as goal

pub returns : goal.returns
returns c = one_table
