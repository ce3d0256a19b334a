use Rattle.std.proofs.Common.{arith, refl}
use Rattle.octet_fields.proofs.Splices.{Writes-then}
use Rattle.pst_model.specs.Reports.{event_report}
use Rattle.pus_report.proofs.Packets.{written-packet}
use Rattle.pus_report.proofs.events.write_event.Goals as goal

pub returns-clause-report : goal.returns-clause-report
returns-clause-report c =
    let report = event_report c.args.store c.args.need c.args.free in
    let two = Writes-then c.put_head.ensures c.put_u16.ensures (omega arith) in
    let three = Writes-then two c.put_u16-2.ensures (omega arith) in
    let four = Writes-then three c.put_u32.ensures (omega arith) in
    let five = Writes-then four c.put_u32-2.ensures (omega arith) in
    written-packet _ _ c.args.head.count c.args.head.moment 2 12 report refl refl five
