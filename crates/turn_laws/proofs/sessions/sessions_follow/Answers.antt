use Rattle.turn_laws.proofs.Following.{all_kept, last_table}
use Rattle.turn_laws.proofs.sessions.sessions_follow.Goals as goal

pub returns-clause-table : goal.returns-clause-table
returns-clause-table c = last_table

pub returns-clause-acknowledged : goal.returns-clause-acknowledged
returns-clause-acknowledged c = all_kept
