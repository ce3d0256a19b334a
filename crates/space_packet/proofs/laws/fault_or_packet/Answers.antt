use Rattle.space_packet.proofs.Faults.{fault_of-none}
use Rattle.space_packet.proofs.laws.fault_or_packet.Goals as goal

pub returns : goal.returns
returns c = fault_of-none
