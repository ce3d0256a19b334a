use Rattle.pst_laws.proofs.Granted.{granted}
use Rattle.pst_laws.proofs.moves.grants_send_what_the_moves_tell.Goals as goal

pub returns : goal.returns
returns c judge blocks number moment table distinct = granted number table distinct
