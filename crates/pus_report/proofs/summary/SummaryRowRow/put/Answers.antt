use Rattle.std.proofs.Common.{arith}
use Rattle.octet_fields.proofs.Splices.{Writes-then}
use Rattle.pus_report.proofs.summary.SummaryRowRow.put.Goals as goal

pub returns-clause-written : goal.returns-clause-written
returns-clause-written c =
    let two = Writes-then c.put_u16.ensures c.put_u32.ensures (omega arith) in
    let three = Writes-then two c.put_u32-2.ensures (omega arith) in
    let four = Writes-then three c.put_u48.ensures (omega arith) in
    let five = Writes-then four c.put_u48-2.ensures (omega arith) in
    Writes-then five c.put_u32-3.ensures (omega arith)
