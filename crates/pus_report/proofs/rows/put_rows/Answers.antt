use Rattle.std.proofs.Common.{subst}
use Rattle.octet_fields.specs.Fields.{Writes}
use Rattle.octet_fields.proofs.Rows.{Listed-more}
use Rattle.pus_report.proofs.rows.put_rows.Goals as goal

pub loop-row-preserved : goal.loop-row-preserved
loop-row-preserved g c =
    let octets = g.R.Row.octets in
    let row = c.row-item.result in
    Listed-more octets g.R.Row.SIZE g.met.R.Row.sized c.args.rows.now row c.loop-row-test.true c.loop-row.invariant
    (subst (λ (r : g.row.R.Denot). Writes c.loop-row.out c.put-place.new.out c.loop-row.place (octets r)) c.row-item.is c.put-place.ensures.written)
    c.put-place.ensures.place
