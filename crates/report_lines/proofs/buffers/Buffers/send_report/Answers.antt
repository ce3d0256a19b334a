use Rattle.std.proofs.Common.{ℕ, List, [], ◌∷◌, take, ap, subst}
use Rattle.std.proofs.lemmas.Result.{on_err_weaker, on_ok_weaker}
use Rattle.pst_model.specs.Rules.{Reply}
use Rattle.report_lines.specs.Sending.{BreaksIn, SendsLines}
use Rattle.report_lines.proofs.buffers.Buffers.send_report.Goals as goal

pub returns-clause-sends : goal.returns-clause-sends
returns-clause-sends g c =
    let means = g.B.Board.means in
    on_ok_weaker c.send_line.result
    (λ (sends : _) (number : ℕ).
    subst (λ (packet : List ℕ). SendsLines means c.args.board.now c.send_line.new.board (record { command = number; kind = Reply; channel = 0; packet = packet } ∷ []))
    (ap (take c.args.size) c.deref.ensures.value) (sends number Reply))
    c.send_line.ensures.sends

pub returns-clause-breaks : goal.returns-clause-breaks
returns-clause-breaks g c =
    let means = g.B.Board.means in
    on_err_weaker c.send_line.result
    (λ (breaks : _) (number : ℕ).
    subst (λ (packet : List ℕ). BreaksIn means c.args.board.now c.send_line.new.board (record { command = number; kind = Reply; channel = 0; packet = packet } ∷ []))
    (ap (take c.args.size) c.deref.ensures.value) (breaks number Reply))
    c.send_line.ensures.breaks
