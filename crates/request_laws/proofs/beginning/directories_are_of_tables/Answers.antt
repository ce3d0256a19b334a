use Rattle.request_laws.proofs.Tables.{begin_held, of_held, of_shown}
use Rattle.request_laws.proofs.beginning.directories_are_of_tables.Goals as goal

pub returns-clause-held : goal.returns-clause-held
returns-clause-held c = of_held

pub returns-clause-begins : goal.returns-clause-begins
returns-clause-begins c = begin_held

pub returns-clause-shown : goal.returns-clause-shown
returns-clause-shown c = of_shown
