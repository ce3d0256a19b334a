use Rattle.std.proofs.Common.{ℕ, true, false, List, Err, sym, ◌∙◌, ap, subst}
use Rattle.pst_model.specs.Rules.{Output}
use Rattle.pst_model.specs.Table.{Table}
use Rattle.report_lines.specs.Counting.{IsCountOf}
use Rattle.report_lines.specs.Sending.{BreaksIn, SendsLines}
use Rattle.space_packet.specs.View.{octets_of}
use Rattle.store_put.specs.declared.refusals.RefusedPut.{RefusedPut}
use Rattle.vault.specs.Memory.{InMemory}
use Rattle.vault.specs.Standing.{StandsFor}
use Rattle.vault.specs.declared.outcome.StoreOutcome.{StoreOutcome}
use Rattle.handler.proofs.Arrived.{arrival_failed, arrival_made, arrive_steps, arrived_lines}
use Rattle.handler.proofs.InStep.{answers_done, answers_link, works_alone, works_within}
use Rattle.handler.proofs.Shown.{is_view, reports_of, view_of}
use Rattle.handler.specs.Arriving.{lines_by}
use Rattle.handler.specs.Carrying.{Answers, handler_of}
use Rattle.handler.specs.declared.fault.HandlerFault.{HandlerFault}
use Rattle.handler.proofs.arrivals.take_in.Goals as goal

pub returns-in-Err-clause-answers : goal.returns-in-Err-clause-answers
returns-in-Err-clause-answers g c =
    let means = g.B.Board.means in
    let old = c.args.board.now in
    let mid = c.store.new.board in
    let vault = c.args.vault.now in
    let packet = octets_of c.args.packet in
    subst (λ (fault : HandlerFault). Answers means old mid (handler_of vault true) (handler_of c.store.new.self false) (arrive_steps c.args.moment packet) (Err fault))
    (sym c.fault_of.ensures)
    (arrival_failed means old mid vault c.store.new.self c.args.moment packet c.in-Err.ensures.any_moment c.in-Err.ensures.quiet c.in-Err.ensures.same
    c.in-Err.ensures.link.faults c.in-Err.ensures.link.sends StoreOutcome c.in-Err.fault c.in-Err.ensures.cause c.in-Err.ensures.no_fault c.in-Err.ensures.mismatch)

pub returns-in-Ok-send_lines-clause-answers : goal.returns-in-Ok-send_lines-clause-answers
returns-in-Ok-send_lines-clause-answers g c =
    let means = g.B.Board.means in
    let old = c.args.board.now in
    let mid = c.store.new.board in
    let new = c.send_lines.new.board in
    let vault = c.args.vault.now in
    let after = c.store.new.self in
    let moment = c.args.moment in
    let packet = octets_of c.args.packet in
    let outcome = c.in-Ok.outcome in
    let refused = c.as_slice-refused.result.now in
    let made =
    arrival_made means old mid vault after moment packet c.in-Ok.ensures.any_moment c.in-Ok.ensures.quiet c.in-Ok.ensures.same c.in-Ok.ensures.link.faults c.in-Ok.ensures.link.sends
    c.in-Ok.ensures.stands c.in-Ok.ensures.sound (ap (λ (v : InMemory). v.blocks) c.in-Ok.ensures.after) c.in-Ok.ensures.no_fault in
    let lines = λ (number : ℕ). lines_by number moment outcome.first_report outcome.forwarded packet refused in
    let are = λ (table : Table) (number : ℕ) (stands : StandsFor vault (means.flash old) table).
    ap (λ (l : List RefusedPut). lines_by number moment outcome.first_report outcome.forwarded packet l) c.as_slice-refused.ensures.value
    ∙ arrived_lines number moment outcome.first_report packet table outcome (c.in-Ok.ensures.first_report ∙ sym (reports_of vault (means.flash old) table stands))
    (c.in-Ok.ensures.outcome table (view_of vault) (is_view vault) (stands.shows (view_of vault) (is_view vault))) in
    answers_done means old mid new vault after (arrive_steps moment packet) c.requires.board made c.in-Ok-send_lines.sent (lines 0) (c.in-Ok-send_lines.ensures.sends 0)
    (λ told table number stands. subst (λ (outputs : List Output). SendsLines means mid new outputs) (are table number stands) (c.in-Ok-send_lines.ensures.sends number))
    (λ told table number stands. subst (λ (outputs : List Output). IsCountOf outputs c.in-Ok-send_lines.sent) (are table number stands) (c.in-Ok-send_lines.ensures.counted number))

pub returns-in-Err-send_lines-clause-answers : goal.returns-in-Err-send_lines-clause-answers
returns-in-Err-send_lines-clause-answers g c =
    let means = g.B.Board.means in
    let old = c.args.board.now in
    let mid = c.store.new.board in
    let new = c.send_lines.new.board in
    let vault = c.args.vault.now in
    let after = c.store.new.self in
    let moment = c.args.moment in
    let packet = octets_of c.args.packet in
    let outcome = c.in-Ok.outcome in
    let refused = c.as_slice-refused.result.now in
    let made =
    arrival_made means old mid vault after moment packet c.in-Ok.ensures.any_moment c.in-Ok.ensures.quiet c.in-Ok.ensures.same c.in-Ok.ensures.link.faults c.in-Ok.ensures.link.sends
    c.in-Ok.ensures.stands c.in-Ok.ensures.sound (ap (λ (v : InMemory). v.blocks) c.in-Ok.ensures.after) c.in-Ok.ensures.no_fault in
    let lines = λ (number : ℕ). lines_by number moment outcome.first_report outcome.forwarded packet refused in
    let are = λ (table : Table) (number : ℕ) (stands : StandsFor vault (means.flash old) table).
    ap (λ (l : List RefusedPut). lines_by number moment outcome.first_report outcome.forwarded packet l) c.as_slice-refused.ensures.value
    ∙ arrived_lines number moment outcome.first_report packet table outcome (c.in-Ok.ensures.first_report ∙ sym (reports_of vault (means.flash old) table stands))
    (c.in-Ok.ensures.outcome table (view_of vault) (is_view vault) (stands.shows (view_of vault) (is_view vault))) in
    answers_link means old mid new vault after (arrive_steps moment packet) c.requires.board made (lines 0) (c.in-Err-send_lines.ensures.breaks 0)
    (λ told table number stands. subst (λ (outputs : List Output). BreaksIn means mid new outputs) (are table number stands) (c.in-Err-send_lines.ensures.breaks number))

pub returns-in-Err-clause-work : goal.returns-in-Err-clause-work
returns-in-Err-clause-work g c fresh table view is shown = works_alone (c.in-Err.ensures.work fresh table view is shown)

pub returns-in-Ok-send_lines-clause-work : goal.returns-in-Ok-send_lines-clause-work
returns-in-Ok-send_lines-clause-work g c fresh table view is shown =
    works_within (c.in-Ok.ensures.work fresh table view is shown) (c.in-Ok-send_lines.ensures.sends 0).work

pub returns-in-Err-send_lines-clause-work : goal.returns-in-Err-send_lines-clause-work
returns-in-Err-send_lines-clause-work g c fresh table view is shown =
    works_within (c.in-Ok.ensures.work fresh table view is shown) (c.in-Err-send_lines.ensures.breaks 0).work

pub returns-in-Err-clause-idle_work : goal.returns-in-Err-clause-idle_work
returns-in-Err-clause-idle_work g c idle = works_alone (c.in-Err.ensures.idle_work idle)

pub returns-in-Ok-send_lines-clause-idle_work : goal.returns-in-Ok-send_lines-clause-idle_work
returns-in-Ok-send_lines-clause-idle_work g c idle =
    works_within (c.in-Ok.ensures.idle_work idle) (c.in-Ok-send_lines.ensures.sends 0).work

pub returns-in-Err-send_lines-clause-idle_work : goal.returns-in-Err-send_lines-clause-idle_work
returns-in-Err-send_lines-clause-idle_work g c idle =
    works_within (c.in-Ok.ensures.idle_work idle) (c.in-Err-send_lines.ensures.breaks 0).work
