use Rattle.std.proofs.Common.{◌+◌, ◌%◌, List, ℕ, set, subst, sym, arith}
use Rattle.octet_fields.specs.Fields.{Writes}
use Rattle.octet_fields.proofs.Rows.{Writes-nothing}
use Rattle.octet_fields.proofs.Splices.{Writes-set, Writes-then}
use Rattle.traffic_gen.proofs.Counting.{counting-more, length-counting}
use Rattle.traffic_gen.proofs.packets.write_body.Goals as goal

pub loop-j-init : goal.loop-j-init
loop-j-init c = Writes-nothing c.args.out.now 19 (omega arith)

pub loop-j-preserved : goal.loop-j-preserved
loop-j-preserved c =
    let octet = (c.args.number + c.loop-j.j) % 256 in
    let place = 19 + c.loop-j.j in
    let more = Writes-then c.loop-j.invariant (Writes-set c.loop-j.out place octet (omega arith)) (omega (arith, length-counting c.args.number c.loop-j.j)) in
    subst (λ (octets : List ℕ). Writes c.args.out.now (set c.loop-j.out place octet) 19 octets) (sym (counting-more c.args.number c.loop-j.j)) more
