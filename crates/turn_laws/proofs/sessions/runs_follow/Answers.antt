use Rattle.turn_laws.proofs.Following.{same_table, tables_follow}
use Rattle.turn_laws.proofs.sessions.runs_follow.Goals as goal

pub returns-clause-numbers : goal.returns-clause-numbers
returns-clause-numbers c = same_table

pub returns-clause-tables : goal.returns-clause-tables
returns-clause-tables c = tables_follow
