use Rattle.image_table.proofs.PickedPackets.{packet_kept}
use Rattle.image_table.proofs.granting.packets_are_kept_records.Goals as goal

pub returns : goal.returns
returns c = packet_kept
