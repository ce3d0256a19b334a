use Rattle.std.proofs.Common.{ℕ, true, sym, subst}
use Rattle.std.specs.Prelude.{is_ok}
use Rattle.pst_model.specs.Rules.{Step}
use Rattle.pst_model.specs.Table.{Table}
use Rattle.pus_request.specs.View.{listed}
use Rattle.space_packet.specs.View.{octets_of}
use Rattle.handler.proofs.Asked.{carried_is, refused_is}
use Rattle.handler.specs.Carrying.{Answers, handler_of}
use Rattle.handler.proofs.requests.answer_request.Goals as goal

pub returns-in-Ok-clause-answers : goal.returns-in-Ok-clause-answers
returns-in-Ok-clause-answers g c =
    let means = g.B.Board.means in
    let vault = c.args.vault.now in
    let packet = octets_of c.args.packet in
    let judged = c.in-Ok.ensures.judged in
    subst (λ (steps : ℕ → Table → Step). Answers means c.args.board.now c.carry_out_request.new.board (handler_of vault true)
    (handler_of c.carry_out_request.new.vault (is_ok c.carry_out_request.result)) steps c.carry_out_request.result)
    (carried_is vault.blocks c.args.moment packet (listed c.in-Ok.judged.items) judged.0 judged.2)
    (c.carry_out_request.ensures.answers packet (sym c.identifier_of-identifier.ensures) (sym judged.1))

pub returns-in-Err-clause-answers : goal.returns-in-Err-clause-answers
returns-in-Err-clause-answers g c =
    let means = g.B.Board.means in
    let vault = c.args.vault.now in
    let packet = octets_of c.args.packet in
    subst (λ (steps : ℕ → Table → Step). Answers means c.args.board.now c.refuse.new.board (handler_of vault true)
    (handler_of c.refuse.new.vault (is_ok c.refuse.result)) steps c.refuse.result)
    (refused_is vault.blocks c.args.moment packet c.identifier_of-identifier.result c.in-Err.refused c.identifier_of-identifier.ensures c.in-Err.ensures.judged)
    c.refuse.ensures.answers
