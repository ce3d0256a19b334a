use Rattle.turn_laws.proofs.Standing.{sends_on, stands_on, table_on}
use Rattle.turn_laws.proofs.turns.turns_stand_behind_more.Goals as goal

pub returns-clause-turn : goal.returns-clause-turn
returns-clause-turn c = stands_on

pub returns-clause-sends : goal.returns-clause-sends
returns-clause-sends c = sends_on

pub returns-clause-table : goal.returns-clause-table
returns-clause-table c = table_on
