use Rattle.std.proofs.Common.{drop, arith, length-take}
use Rattle.traffic_gen.specs.Lines.{text_of}
use Rattle.traffic_gen.specs.Steps.{behind}
use Rattle.traffic_gen.proofs.Pieces.{moved_part}
use Rattle.traffic_gen.proofs.traffic.Traffic.hand_out.Goals as goal

pub returns-clause-moved : goal.returns-clause-moved
returns-clause-moved c =
    let traffic = c.args.self.now in
    let count = c.min-count.result in
    let order = traffic.order in
    moved_part traffic.lines c.copy_from_slice.new.self (drop count c.args.into.now) (text_of (behind traffic.total traffic.state traffic.made)) traffic.from traffic.to count
    c.copy_from_slice.ensures.after
    (omega (arith, c.copy_from_slice.ensures.len, length-take count c.args.into.now, c.min-count.ensures))
    (omega (arith, c.min-count.ensures, order))
