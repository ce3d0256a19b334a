use Rattle.turn_laws.proofs.Following.{table_done, table_next}
use Rattle.turn_laws.proofs.turns.tables_in_turn.Goals as goal

pub returns-clause-done : goal.returns-clause-done
returns-clause-done c = table_done

pub returns-clause-next : goal.returns-clause-next
returns-clause-next c = table_next
