use Rattle.std.proofs.Common.{ℕ, List, [], ◌∷◌, subst}
use Rattle.session_text.proofs.Buffers.{on_err}
use Rattle.pst_model.specs.Rules.{Reply}
use Rattle.report_lines.specs.Sending.{BreaksIn, SendsLines}
use Rattle.report_lines.proofs.replies.send_event.Goals as goal

pub returns-in_err-octets-clause-breaks : goal.returns-in_err-octets-clause-breaks
returns-in_err-octets-clause-breaks g c =
    let means = g.B.Board.means in
    on_err c.from_residual.result
    (λ (number : ℕ).
    subst (λ (packet : List ℕ). BreaksIn means c.args.board.now c.send_report.new.board (record { command = number; kind = Reply; channel = 0; packet = packet } ∷ []))
    c.write_event-length.ensures.front (c.in_err-octets.ensures.breaks number))

pub returns-clause-sends : goal.returns-clause-sends
returns-clause-sends g c number =
    let means = g.B.Board.means in
    subst (λ (packet : List ℕ). SendsLines means c.args.board.now c.send_report.new.board (record { command = number; kind = Reply; channel = 0; packet = packet } ∷ []))
    c.write_event-length.ensures.front (c.in_ok-octets.ensures.sends number)
