use Rattle.pst_model.proofs.Windows.{ahead, deleted, window}
use Rattle.pst_model.proofs.stores.times_part_the_packets.Goals as goal

pub returns : goal.returns
returns c = record { window = window; deleted = deleted; ahead = ahead }
