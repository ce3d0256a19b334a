use Rattle.std.proofs.Common.{arith, refl}
use Rattle.octet_fields.proofs.Splices.{Writes-then}
use Rattle.control_defs.specs.PatternOctets.{pattern_octets}
use Rattle.pst_model.specs.Reports.{types_report}
use Rattle.control_defs.proofs.PatternOctets.{length-pattern_octets}
use Rattle.pus_report.proofs.Lists.{length-listed}
use Rattle.pus_report.proofs.Packets.{IsPacket-report, length-report, written-packet}
use Rattle.pus_report.proofs.patterns.write_types.Goals as goal

pub returns : goal.returns
returns c =
    let count = c.args.head.count in
    let moment = c.args.head.moment in
    let report = types_report c.args.store c.args.patterns.now in
    let content = length-listed pattern_octets 5 length-pattern_octets c.args.patterns.now in
    let total = length-report count moment report in
    let named = Writes-then c.put_head.ensures c.put_u16.ensures (omega arith) in
    let whole = Writes-then named c.put_rows.ensures (omega arith) in record {
      length = omega (arith, content, total);
      report = written-packet _ _ count moment 6 _ report refl (omega (arith, content)) whole;
      short = omega arith;
      packet = IsPacket-report count moment report c.requires.count (omega (arith, content));
    }
