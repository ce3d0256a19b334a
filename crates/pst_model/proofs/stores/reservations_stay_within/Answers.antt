use Rattle.pst_model.proofs.Reservations.{instruct_reserved, step_reserved}
use Rattle.pst_model.proofs.stores.reservations_stay_within.Goals as goal

pub returns : goal.returns
returns c = record { instruction = instruct_reserved; command = step_reserved }
