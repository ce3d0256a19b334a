use Rattle.std.proofs.Common.{arith}
use Rattle.octet_fields.proofs.Splices.{Writes-then}
use Rattle.pus_report.proofs.status.StatusRowRow.put.Goals as goal

pub returns-clause-written : goal.returns-clause-written
returns-clause-written c =
    let storage = rw c.from.ensures at c.put_u8.ensures in
    let open_on = rw c.from-2.ensures at c.put_u8-2.ensures in
    let range = rw c.from-3.ensures at c.put_u8-3.ensures in
    let two = Writes-then c.put_u16.ensures storage (omega arith) in
    let three = Writes-then two open_on (omega arith) in
    Writes-then three range (omega arith)
