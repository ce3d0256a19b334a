use Rattle.pst_laws.proofs.Placed.{command_leads, run_leads}
use Rattle.pst_laws.proofs.moves.moves_tell_the_places.Goals as goal

pub returns-clause-command : goal.returns-clause-command
returns-clause-command c judge blocks number identifier command table = command_leads judge blocks identifier number command table

pub returns-clause-run : goal.returns-clause-run
returns-clause-run c judge blocks number identifier table commands = run_leads judge blocks identifier number table commands
