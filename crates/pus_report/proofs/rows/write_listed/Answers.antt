use Rattle.std.proofs.Common.{◌≡◌, ◌+◌, ◌*◌, ◌∙◌, ℕ, ap, arith, length, refl, sym}
use Rattle.octet_fields.proofs.Splices.{Writes-then}
use Rattle.pst_model.specs.Reports.{listed_report}
use Rattle.pus_report.proofs.Lists.{length-listed}
use Rattle.pus_report.proofs.Packets.{IsPacket-report, length-report, written-packet}
use Rattle.pus_report.proofs.rows.write_listed.Goals as goal

pub returns : goal.returns
returns g c =
    let count = c.args.head.count in
    let moment = c.args.head.moment in
    let rows = c.args.rows.now in
    let report = listed_report c.args.service c.args.subtype g.R.Row.octets rows in
    let listed = length-listed g.R.Row.octets g.R.Row.SIZE g.met.R.Row.sized rows in
    let content : 1 + c.SIZE.result * length rows ≡ length report.content =
    ap (λ (n : ℕ). 1 + n * length rows) c.SIZE.ensures ∙ sym listed in
    let size = c.requires.size in
    let total = length-report count moment report in
    let whole = Writes-then c.put_head.ensures c.put_rows.ensures (omega arith) in record {
      length = omega (arith, content, total);
      report = written-packet _ _ count moment c.args.subtype _ report refl content whole;
      short = omega (arith, content, listed, size);
      packet = IsPacket-report count moment report c.requires.count (omega (arith, listed, size));
    }
