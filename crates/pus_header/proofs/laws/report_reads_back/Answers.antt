use Rattle.pus_header.proofs.Heads.{IsPacket-headed}
use Rattle.pus_header.proofs.laws.report_reads_back.Goals as goal

pub returns-clause-packet : goal.returns-clause-packet
returns-clause-packet c = IsPacket-headed
