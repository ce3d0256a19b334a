use Rattle.octet_fields.proofs.Splices.{field-Writes}
use Rattle.octet_fields.proofs.written_reads_back.Goals as goal

pub returns : goal.returns
returns c = field-Writes
