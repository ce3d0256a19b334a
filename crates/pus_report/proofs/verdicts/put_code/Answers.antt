use Rattle.std.proofs.Common.{arith}
use Rattle.octet_fields.proofs.Splices.{Writes-then}
use Rattle.pus_report.proofs.verdicts.put_code.Goals as goal

pub returns : goal.returns
returns c = Writes-then c.put_u8.ensures c.put_u16.ensures (omega arith)
