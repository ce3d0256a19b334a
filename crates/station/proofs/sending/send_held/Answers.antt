use Rattle.station.proofs.Listing.{lists_since}
use Rattle.station.proofs.Quiet.{BoardLaws, IsQuiet, quiet_barrier}
use Rattle.station.proofs.sending.send_held.Given.{Over}
use Rattle.station.proofs.sending.send_held.Goals as goal
use Rattle.station.proofs.sending.send_held.Goals.{After-barrier}

laws : (g : Over) (board : g.row.B.Denot) → BoardLaws g.B.Board.means board
laws g board = record { least = g.met.B.Board.enough_blocks board; content = λ told. g.met.B.Board.content_pages board told }

quiet : (g : Over) (c : After-barrier g) → IsQuiet g.B.Board.means c.args.board.now c.barrier.new.self
quiet g c = quiet_barrier g.B.Board.means c.args.board.now c.barrier.new.self _ c.barrier.ensures.touches

pub returns-in-Ok-clause-lists : goal.returns-in-Ok-clause-lists
returns-in-Ok-clause-lists g c =
    let at = goal.at.returns-in-Ok-clause-lists g c in
    lists_since g.B.Board.means c.args.board.now c.barrier.new.self (quiet g at.After-barrier) (laws g c.args.board.now) c.open_listing.new.board c.open_listing.result c.open_listing.ensures.lists
