use Rattle.pst_laws.proofs.Numbered.{numbers_kept}
use Rattle.pst_laws.proofs.sending.packets_keep_their_numbers.Goals as goal

pub returns : goal.returns
returns c = numbers_kept
