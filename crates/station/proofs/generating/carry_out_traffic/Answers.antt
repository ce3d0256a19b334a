use Rattle.std.proofs.Common.{rules}
use Rattle.muted_board.specs.Muted.{board_of}
use Rattle.station.proofs.Traffic.{as_lent}
use Rattle.station.proofs.generating.carry_out_traffic.Goals as goal
use Rattle.traffic_gen.specs.Traffic.{traffic_of}

pub returns : goal.returns
returns g c =
    as_lent g.B.Board.means (traffic_of c.args.number c.args.count) (board_of c.new-muted.result) (board_of c.carry_out_muted.new.muted) c.args.board.now _ c.carry_out_muted.result c.carry_out_muted.new.tally
    c.carry_out_muted.ensures.carries c.new-muted.ensures.over (search rules)
