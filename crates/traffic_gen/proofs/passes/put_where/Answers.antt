use Rattle.std.proofs.Common.{arith}
use Rattle.traffic_gen.proofs.LineLengths.{length-timed_line}
use Rattle.traffic_gen.proofs.passes.put_where.Goals as goal

pub returns-then-so-clause-few : goal.returns-then-so-clause-few
returns-then-so-clause-few c = omega (arith, length-timed_line c.args.letter c.args.moment, c.put_timed.ensures.end)
