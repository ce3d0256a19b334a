use Rattle.std.proofs.Common.{arith}
use Rattle.octet_fields.proofs.Splices.{Writes-at_front, Writes-then}
use Rattle.traffic_gen.proofs.lines.put_front.Goals as goal

pub returns-clause-front : goal.returns-clause-front
returns-clause-front c =
    let time = Writes-at_front c.put_u48.ensures in
    let two = Writes-then c.put_u8.ensures c.put_u8-2.ensures (omega arith) in
    Writes-then two (rw time at c.put_hex.ensures) (omega arith)
