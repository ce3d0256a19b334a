use Rattle.std.proofs.Common.{List, take, sym, ◌∙◌, subst}
use Rattle.octet_fields.proofs.Results.{on_err}
use Rattle.pst_model.specs.Replies.{replies_from}
use Rattle.pst_model.specs.Reports.{Report}
use Rattle.pst_model.specs.Rules.{Output}
use Rattle.report_lines.proofs.Counted.{counted_one}
use Rattle.report_lines.proofs.Sendings.{lines_none}
use Rattle.report_lines.specs.Counting.{IsCountOf}
use Rattle.report_lines.specs.Sending.{BreaksIn, SendsLines}
use Rattle.report_lines.specs.Times.{AllHaveTimes}
use Rattle.report_lines.specs.Written.{written_in}
use Rattle.handler.proofs.Answering.{reply_held}
use Rattle.handler.proofs.Shown.{all_timed}
use Rattle.handler.proofs.replies.send_content.Goals as goal

pub write_content-requires-clause-timed : goal.write_content-requires-clause-timed
write_content-requires-clause-timed g c =
    subst AllHaveTimes (sym c.view-view.ensures.view.indexes) (all_timed c.args.vault.now c.view-view.ensures.sound)

pub returns-in_default-clause-sends : goal.returns-in_default-clause-sends
returns-in_default-clause-sends g c table number shown =
    let means = g.B.Board.means in
    let old = c.args.board.now in
    subst (λ (reports : List Report). SendsLines means old old (replies_from number c.args.head.moment c.args.head.count reports))
    (sym (c.in_default.ensures.none table (shown c.view-view.result c.view-view.ensures.view)))
    (lines_none means old (λ image told left. g.met.B.Board.images_now old image told left))

pub returns-in_err-octets-clause-breaks : goal.returns-in_err-octets-clause-breaks
returns-in_err-octets-clause-breaks g c =
    let means = g.B.Board.means in
    on_err c.from_residual.result
    (λ table number shown.
    subst (λ (outputs : List Output). BreaksIn means c.args.board.now c.send_report.new.board outputs)
    (reply_held number c.args.head _ (written_in c.write_content.new.self) c.in-Some.size (c.in-Some.ensures.some table (shown c.view-view.result c.view-view.ensures.view)))
    (c.in_err-octets.ensures.breaks number))

pub returns-clause-sends : goal.returns-clause-sends
returns-clause-sends g c table number shown =
    let means = g.B.Board.means in
    subst (λ (outputs : List Output). SendsLines means c.args.board.now c.send_report.new.board outputs)
    (reply_held number c.args.head _ (written_in c.write_content.new.self) c.in-Some.size (c.in-Some.ensures.some table (shown c.view-view.result c.view-view.ensures.view)))
    (c.in_ok-octets.ensures.sends number)

pub returns-clause-counted : goal.returns-clause-counted
returns-clause-counted g c table number shown =
    subst (λ (outputs : List Output). IsCountOf outputs (record c.default-2.result { replies = 1; octets = c.from.result }))
    (reply_held number c.args.head _ (written_in c.write_content.new.self) c.in-Some.size (c.in-Some.ensures.some table (shown c.view-view.result c.view-view.ensures.view)))
    (counted_one number (take c.in-Some.size (written_in c.write_content.new.self)) c.from.result c.default-2.result (c.from.ensures ∙ c.in_ok-octets.ensures.octets)
    c.default-2.ensures.0 c.default-2.ensures.1.1.0)
