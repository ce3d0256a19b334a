use Rattle.std.proofs.Common.{◌≡◌, ℕ, ◌∙◌, ap, subst}
use Rattle.space_packet.specs.View.{octets_of}
use Rattle.vault.specs.Memory.{InMemory}
use Rattle.handler.proofs.Asked.{answer_steps}
use Rattle.handler.proofs.Handlers.{handler_as}
use Rattle.handler.specs.Carrying.{Answers, Held, handler_of}
use Rattle.handler.proofs.handler.Handler.request.Goals as goal

pub returns-clause-answers : goal.returns-clause-answers
returns-clause-answers g c =
    let means = g.B.Board.means in
    let old = c.args.board.now in
    let new = c.answer_request-result.new.board in
    let now = c.answer_request-result.new.vault in
    let packet = octets_of c.args.packet in
    let vault : c.self.inside.vault ≡ c.args.self.now.vault = ap (λ (h : Held). h.vault) c.self.view_is in
    let blocks = ap (λ (v : InMemory). v.blocks) vault ∙ c.requires.board.blocks in
    subst (λ (n : ℕ). Answers means old new c.args.self.now (handler_of now c.is_ok-self-inside.result) (answer_steps n c.args.moment packet) c.answer_request-result.result) blocks
    (handler_as means old new c.args.self.now c.self.inside.vault now c.is_ok-self-inside.result (answer_steps c.self.inside.vault.blocks c.args.moment packet)
    c.answer_request-result.result vault c.requires.is_open c.is_ok-self-inside.ensures.value c.answer_request-result.ensures.answers)
