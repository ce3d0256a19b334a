use Rattle.std.proofs.Common.{◌≡◌, Some, ap}
use Rattle.space_packet.specs.View.{octets_of}
use Rattle.handler.specs.Carrying.{Held}
use Rattle.report_lines.specs.declared.sent.Sent.{Sent}
use Rattle.station.proofs.CommandWorking.{arrival_works, grant_works, idle_works, of_ok, ok_by}
use Rattle.station.specs.Working.{TurnWorks}
use Rattle.pst_model.specs.Command.{Arrival, Grant, Idle, Request}
use Rattle.retrieval.specs.Picks.{pick_of}
use Rattle.retrieval.specs.declared.pick.Pick.{Pick}
use Rattle.vault.specs.Arriving.{IsFreshenedBy}
use Rattle.vault.specs.Changing.{RoomAfter}
use Rattle.vault.specs.Storing.{AreFreshFor}
use Rattle.station.proofs.carrying.carry_out.Goals as goal

pub returns-in-Arrival-clause-answers : goal.returns-in-Arrival-clause-answers
returns-in-Arrival-clause-answers g c = rw c.in-Arrival.is c.arrival.ensures.answers

pub returns-in-Request-clause-answers : goal.returns-in-Request-clause-answers
returns-in-Request-clause-answers g c = rw c.in-Request.is c.request.ensures.answers

pub returns-in-Grant-clause-answers : goal.returns-in-Grant-clause-answers
returns-in-Grant-clause-answers g c = rw c.in-Grant.is c.grant.ensures.answers

pub returns-in-Idle-clause-answers : goal.returns-in-Idle-clause-answers
returns-in-Idle-clause-answers g c = rw c.in-Idle.is c.idle.ensures.answers

pub returns-in-Arrival-clause-work : goal.returns-in-Arrival-clause-work
returns-in-Arrival-clause-work g c =
    let means = g.B.Board.means in
    let old = c.args.board.now in
    let new = c.arrival.new.board in
    let was = c.args.handler.now.vault in
    let now = c.arrival.new.self.vault in
    let moment = c.in-Arrival.moment in
    let packet = octets_of c.in-Arrival.packet in
    let r = c.arrival.result in
    let works = ok_by r (TurnWorks means old new (Arrival moment packet) was now) (λ (sent : Sent) is told table number stands plain fresh.
    arrival_works means old new was now table fresh number moment packet stands
    ((c.arrival.ensures.answers.done sent is told).stands table number stands)
    c.arrival.ensures.work c.arrival.ensures.idle_work
    (of_ok r (AreFreshFor packet was → RoomAfter 7 was.journal.room now.journal.room) sent is c.arrival.ensures.room)
    (of_ok r (IsFreshenedBy packet was now) sent is c.arrival.ensures.stale)) in
    rw c.in-Arrival.is works

pub returns-in-Request-clause-work : goal.returns-in-Request-clause-work
returns-in-Request-clause-work g c =
    let means = g.B.Board.means in
    let works = ok_by c.request.result (TurnWorks means c.args.board.now c.request.new.board (Request c.in-Request.moment (octets_of c.in-Request.packet)) c.args.handler.now.vault c.request.new.self.vault)
    (λ (sent : Sent) is told table number stands plain fresh. absurd plain) in
    rw c.in-Request.is works

pub returns-in-Grant-clause-work : goal.returns-in-Grant-clause-work
returns-in-Grant-clause-work g c =
    let means = g.B.Board.means in
    let old = c.args.board.now in
    let new = c.grant.new.board in
    let was = c.args.handler.now.vault in
    let now = c.grant.new.self.vault in
    let moment = c.in-Grant.moment in
    let r = c.grant.result in
    let works = ok_by r (TurnWorks means old new (Grant moment) was now) (λ (sent : Sent) is told table number stands plain fresh.
    grant_works means old new was now table fresh number moment c.grant.ensures.work (c.grant.ensures.reads table number stands)
    (of_ok r ((pick : Pick) → pick_of was.directory.stores ≡ Some pick → RoomAfter 2 was.journal.room now.journal.room) sent is c.grant.ensures.room)
    c.grant.ensures.nothing c.grant.ensures.lasts) in
    rw c.in-Grant.is works

pub returns-in-Idle-clause-work : goal.returns-in-Idle-clause-work
returns-in-Idle-clause-work g c =
    let means = g.B.Board.means in
    let old = c.args.board.now in
    let new = c.idle.new.board in
    let was = c.args.handler.now.vault in
    let now = c.idle.new.self.vault in
    let works = ok_by c.idle.result (TurnWorks means old new (Idle c.in-Idle.moment) was now) (λ (sent : Sent) is told table number stands plain fresh.
    idle_works means old new was now table fresh c.in-Idle.moment c.idle.ensures.board (ap (λ (h : Held). h.vault) c.idle.ensures.same)) in
    rw c.in-Idle.is works
