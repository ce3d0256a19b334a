use Rattle.std.proofs.Common.{ap, subst}
use Rattle.space_packet.specs.View.{octets_of}
use Rattle.handler.proofs.Arrived.{arrive_steps}
use Rattle.handler.proofs.Handlers.{handler_as}
use Rattle.handler.specs.Carrying.{Held}
use Rattle.handler.specs.Working.{ArrivesWithin}
use Rattle.vault.specs.Memory.{InMemory}
use Rattle.vault.specs.Storing.{AreFreshFor}
use Rattle.handler.proofs.handler.Handler.arrival.Goals as goal

pub returns-clause-answers : goal.returns-clause-answers
returns-clause-answers g c =
    handler_as g.B.Board.means c.args.board.now c.take_in-result.new.board c.args.self.now c.self.inside.vault c.take_in-result.new.vault c.is_ok-self-inside.result
    (arrive_steps c.args.moment (octets_of c.args.packet)) c.take_in-result.result (ap (λ (h : Held). h.vault) c.self.view_is) c.requires.is_open
    c.is_ok-self-inside.ensures.value c.take_in-result.ensures.answers

pub returns-clause-work : goal.returns-clause-work
returns-clause-work g c =
    let packet = octets_of c.args.packet in
    subst (λ (v : InMemory). AreFreshFor packet v → ArrivesWithin g.B.Board.means c.args.board.now c.take_in-result.new.board v packet)
    (ap (λ (h : Held). h.vault) c.self.view_is) c.take_in-result.ensures.work
