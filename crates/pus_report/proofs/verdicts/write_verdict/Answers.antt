use Rattle.std.proofs.Common.{◌+◌, arith, append_assoc, length-append, subst}
use Rattle.octet_fields.proofs.Splices.{Writes-then}
use Rattle.octet_fields.specs.Fields.{Writes}
use Rattle.pus_header.specs.Reports.{report_head}
use Rattle.pst_model.specs.Reports.{failure_octets, verdict_report}
use Rattle.pus_report.proofs.Packets.{written-packet}
use Rattle.pus_report.proofs.verdicts.write_verdict.Goals as goal

pub returns-clause-report : goal.returns-clause-report
returns-clause-report c =
    let request = c.args.request in
    let failure = failure_octets c.args.verdict in
    let count = c.args.head.count in
    let moment = c.args.head.moment in
    let subtype = c.subtype_of.result in
    let size = 4 + c.failure_length-content.result in
    let head = report_head count 1 subtype moment size in
    let named = Writes-then c.put_head.ensures c.put_octets.ensures (omega arith) in
    let whole = Writes-then named c.put_failure.ensures (omega (arith, length-append head request)) in
    written-packet c.args.out.now c.put_failure.new.out count moment subtype size (verdict_report request c.args.verdict)
    c.subtype_of.ensures (omega (arith, length-append request failure))
    (subst (Writes c.args.out.now c.put_failure.new.out 0) (append_assoc head request failure) whole)
