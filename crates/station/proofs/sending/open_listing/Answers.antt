use Rattle.station.proofs.Listing.{lists_opened}
use Rattle.station.proofs.Quiet.{BoardLaws, IsQuiet, quiet_read}
use Rattle.station.proofs.sending.open_listing.Given.{Over}
use Rattle.station.proofs.sending.open_listing.Goals as goal
use Rattle.station.proofs.sending.open_listing.Goals.{After-open}

laws : (g : Over) (board : g.row.B.Denot) → BoardLaws g.B.Board.means board
laws g board = record { least = g.met.B.Board.enough_blocks board; content = λ told. g.met.B.Board.content_pages board told }

quiet : (g : Over) (c : After-open g) → IsQuiet g.B.Board.means c.args.board.now c.open.new.board
quiet g c = quiet_read g.B.Board.means c.args.board.now c.open.new.board _ c.open.ensures.reads

pub returns-in-Ok-clause-lists : goal.returns-in-Ok-clause-lists
returns-in-Ok-clause-lists g c =
    let at = goal.at.returns-in-Ok-clause-lists g c in
    lists_opened g.B.Board.means c.args.board.now c.open.new.board (quiet g at.After-open) (laws g c.args.board.now) c.send_opened.new.board c.send_opened.result c.in-Ok.vault
    c.requires.firm c.in-Ok.ensures.blocks c.in-Ok.ensures.held c.in-Ok.ensures.stands c.send_opened.ensures.ends c.send_opened.ensures.listing
