use Rattle.std.proofs.Common.{arith}
use Rattle.octet_fields.proofs.Splices.{Writes-then}
use Rattle.pus_report.proofs.configuration.ConfigRowRow.put.Goals as goal

pub returns-clause-written : goal.returns-clause-written
returns-clause-written c =
    let kind = rw c.octet.ensures at c.put_u8.ensures in
    let two = Writes-then c.put_u16.ensures kind (omega arith) in
    let three = Writes-then two c.put_u32.ensures (omega arith) in
    Writes-then three c.put_u8-2.ensures (omega arith)
