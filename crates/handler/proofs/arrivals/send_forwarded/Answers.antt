use Rattle.std.proofs.Common.{ℕ, Bool, List, [], ◌∷◌, sym, subst}
use Rattle.std.specs.Prelude.{if◌then◌else◌}
use Rattle.octet_fields.proofs.Results.{on_err}
use Rattle.pst_model.specs.Rules.{Forwarded}
use Rattle.report_lines.proofs.Sendings.{lines_none}
use Rattle.report_lines.specs.Sending.{BreaksIn, SendsLines}
use Rattle.space_packet.specs.View.{octets_of}
use Rattle.handler.specs.Arriving.{forwarded_as}
use Rattle.handler.proofs.arrivals.send_forwarded.Goals as goal

pub returns-then-not-is_forwarded-clause-sends : goal.returns-then-not-is_forwarded-clause-sends
returns-then-not-is_forwarded-clause-sends g c number =
    let means = g.B.Board.means in
    let old = c.args.board.now in
    subst (λ (b : Bool). SendsLines means old old (if b then forwarded_as number (octets_of c.args.packet) ∷ [] else [])) (sym c.if-not-is_forwarded.true)
    (lines_none means old (λ image told left. g.met.B.Board.images_now old image told left))

pub returns-in_err-octets-clause-breaks : goal.returns-in_err-octets-clause-breaks
returns-in_err-octets-clause-breaks g c =
    let means = g.B.Board.means in
    on_err c.from_residual.result
    (λ (number : ℕ).
    subst (λ (b : Bool). BreaksIn means c.args.board.now c.send.new.board (if b then forwarded_as number (octets_of c.args.packet) ∷ [] else [])) (sym c.if-not-is_forwarded.false)
    (subst (λ (packet : List ℕ). BreaksIn means c.args.board.now c.send.new.board (forwarded_as number packet ∷ [])) c.bytes.ensures.octets
    (c.in_err-octets.ensures.breaks number Forwarded)))

pub returns-clause-sends : goal.returns-clause-sends
returns-clause-sends g c number =
    let means = g.B.Board.means in
    subst (λ (b : Bool). SendsLines means c.args.board.now c.send.new.board (if b then forwarded_as number (octets_of c.args.packet) ∷ [] else [])) (sym c.if-not-is_forwarded.false)
    (subst (λ (packet : List ℕ). SendsLines means c.args.board.now c.send.new.board (forwarded_as number packet ∷ [])) c.bytes.ensures.octets
    (c.in_ok-octets.ensures.sends number Forwarded))
