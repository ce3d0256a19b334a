use Rattle.std.proofs.Common.{arith}
use Rattle.octet_fields.proofs.Splices.{Writes-then}
use Rattle.traffic_gen.proofs.LineLengths.{length-front, length-timed_line}
use Rattle.traffic_gen.proofs.lines.put_timed.Goals as goal

pub returns-clause-end : goal.returns-clause-end
returns-clause-end c = omega (arith, length-timed_line c.args.letter c.args.moment, c.put_front-end.ensures.end)

pub returns-clause-line : goal.returns-clause-line
returns-clause-line c =
    Writes-then c.put_front-end.ensures.front c.put_u8.ensures (omega (arith, length-front c.args.letter c.args.moment, c.put_front-end.ensures.end))
