use Rattle.store_load.proofs.RenewedParts.{all_renewed, next_renewed, none_renewed}
use Rattle.store_load.proofs.indexes.entries_move_one_by_one.Goals as goal

pub returns-clause-none : goal.returns-clause-none
returns-clause-none c = none_renewed

pub returns-clause-next : goal.returns-clause-next
returns-clause-next c = next_renewed

pub returns-clause-all : goal.returns-clause-all
returns-clause-all c = all_renewed
