use Rattle.octet_fields.specs.Fields.{Writes}
use Rattle.traffic_gen.specs.Traffic.{counting}
use Rattle.traffic_gen.proofs.packets.write_body.Given as goal

abbrev pub invariant-loop-j : goal.invariant-loop-j
invariant-loop-j l = Writes l.fn.out l.out 19 (counting l.number l.j)
