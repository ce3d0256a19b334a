use Rattle.store_load.proofs.Going.{appended}
use Rattle.store_load.proofs.laws.records_are_appended.Goals as goal

pub returns : goal.returns
returns c = appended
