use Rattle.station.proofs.Summed.{traffic_summed}
use Rattle.station.proofs.generating.send_traffic.Goals as goal
use Rattle.traffic_gen.specs.Traffic.{traffic_of}

pub returns-in-Done : goal.returns-in-Done
returns-in-Done g c =
    traffic_summed g.B.Board.means (traffic_of c.args.number c.args.count) c.args.board.now c.carry_out_traffic.new.board c.send_summary.new.board c.send_summary.result c.carry_out_traffic.new.tally
    c.in-Done.ensures c.send_summary.ensures
