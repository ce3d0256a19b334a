use Rattle.std.proofs.Common.{List, length, refl, sym, ◌∙◌, ap, subst}
use Rattle.octet_fields.proofs.Results.{on_err}
use Rattle.pst_model.specs.Contents.{content_report}
use Rattle.pst_model.specs.Reports.{count_behind}
use Rattle.pst_model.specs.Rules.{Output}
use Rattle.pus_request.specs.View.{listed}
use Rattle.report_lines.proofs.Counted.{counted_on}
use Rattle.report_lines.proofs.Sendings.{breaks_early, breaks_on, lines_on}
use Rattle.report_lines.specs.Counting.{IsCountOf, and_then}
use Rattle.report_lines.specs.Sending.{BreaksIn, SendsLines}
use Rattle.handler.proofs.Answering.{answer_parts, replies_in-replies}
use Rattle.handler.proofs.replies.send_answer.Goals as goal

pub returns-in_err-first-clause-breaks : goal.returns-in_err-first-clause-breaks
returns-in_err-first-clause-breaks g c =
    let means = g.B.Board.means in
    let count = c.args.head.count in
    let request = c.args.request.now in
    let before = c.as_slice.result.now in
    on_err c.from_residual.result
    (λ table number shown.
    let content = content_report (listed request.items) table in
    let second = count_behind count (length before) in
    subst (λ (outputs : List Output). BreaksIn means c.args.board.now c.send_verdicts.new.board outputs)
    (answer_parts number c.args.head.moment count request.identifier request.acks c.args.failures.now (listed request.items) table before _
    second (count_behind second (length content)) (length content) c.requires.count (c.as_slice.ensures.value ∙ c.verdicts_before-before.ensures) refl refl refl refl)
    (breaks_early means c.args.board.now c.send_verdicts.new.board _ _
    (breaks_early means c.args.board.now c.send_verdicts.new.board _ _ (c.in_err-first.ensures.breaks number))))

pub returns-in_err-content-clause-breaks : goal.returns-in_err-content-clause-breaks
returns-in_err-content-clause-breaks g c =
    let means = g.B.Board.means in
    let count = c.args.head.count in
    let request = c.args.request.now in
    let before = c.as_slice.result.now in
    let second = c.count_after-count.result in
    on_err c.from_residual-in_err-content.result
    (λ table number shown.
    let content = content_report (listed request.items) table in
    subst (λ (outputs : List Output). BreaksIn means c.args.board.now c.send_content.new.board outputs)
    (answer_parts number c.args.head.moment count request.identifier request.acks c.args.failures.now (listed request.items) table before _
    second (count_behind second (length content)) (length content) c.requires.count (c.as_slice.ensures.value ∙ c.verdicts_before-before.ensures) refl
    (c.count_after-count.ensures.after ∙ ap (count_behind count) (c.len.ensures.value ∙ sym (ap length c.as_slice.ensures.value))) refl refl)
    (breaks_early means c.args.board.now c.send_content.new.board _ _
    (breaks_on means c.args.board.now c.send_verdicts.new.board c.send_content.new.board _ _ (c.in_ok-first.ensures.sends number)
    (c.in_err-content.ensures.breaks table number shown))))

pub returns-in_err-last-clause-breaks : goal.returns-in_err-last-clause-breaks
returns-in_err-last-clause-breaks g c =
    let means = g.B.Board.means in
    let count = c.args.head.count in
    let request = c.args.request.now in
    let before = c.as_slice.result.now in
    let second = c.count_after-count.result in
    on_err c.from_residual-in_err-last.result
    (λ table number shown.
    let content = content_report (listed request.items) table in
    let replies = (c.in_ok-content.ensures.counted table number shown).replies ∙ replies_in-replies number c.args.head.moment second content in
    subst (λ (outputs : List Output). BreaksIn means c.args.board.now c.send_verdicts-2.new.board outputs)
    (answer_parts number c.args.head.moment count request.identifier request.acks c.args.failures.now (listed request.items) table before c.as_slice-2.result.now
    second c.count_after-count-2.result c.in_ok-content.content.replies c.requires.count (c.as_slice.ensures.value ∙ c.verdicts_before-before.ensures)
    (c.as_slice-2.ensures.value ∙ c.completed-after.ensures)
    (c.count_after-count.ensures.after ∙ ap (count_behind count) (c.len.ensures.value ∙ sym (ap length c.as_slice.ensures.value))) c.count_after-count-2.ensures.after replies)
    (breaks_on means c.args.board.now c.send_content.new.board c.send_verdicts-2.new.board _ _
    (lines_on means c.args.board.now c.send_verdicts.new.board c.send_content.new.board _ _ (c.in_ok-first.ensures.sends number)
    (c.in_ok-content.ensures.sends table number shown)) (c.in_err-last.ensures.breaks number)))

pub returns-clause-sends : goal.returns-clause-sends
returns-clause-sends g c table number shown =
    let means = g.B.Board.means in
    let count = c.args.head.count in
    let request = c.args.request.now in
    let before = c.as_slice.result.now in
    let second = c.count_after-count.result in
    let content = content_report (listed request.items) table in
    let replies = (c.in_ok-content.ensures.counted table number shown).replies ∙ replies_in-replies number c.args.head.moment second content in
    subst (λ (outputs : List Output). SendsLines means c.args.board.now c.send_verdicts-2.new.board outputs)
    (answer_parts number c.args.head.moment count request.identifier request.acks c.args.failures.now (listed request.items) table before c.as_slice-2.result.now
    second c.count_after-count-2.result c.in_ok-content.content.replies c.requires.count (c.as_slice.ensures.value ∙ c.verdicts_before-before.ensures)
    (c.as_slice-2.ensures.value ∙ c.completed-after.ensures)
    (c.count_after-count.ensures.after ∙ ap (count_behind count) (c.len.ensures.value ∙ sym (ap length c.as_slice.ensures.value))) c.count_after-count-2.ensures.after replies)
    (lines_on means c.args.board.now c.send_content.new.board c.send_verdicts-2.new.board _ _
    (lines_on means c.args.board.now c.send_verdicts.new.board c.send_content.new.board _ _ (c.in_ok-first.ensures.sends number)
    (c.in_ok-content.ensures.sends table number shown)) (c.in_ok-last.ensures.sends number))

pub returns-clause-counted : goal.returns-clause-counted
returns-clause-counted g c table number shown =
    let count = c.args.head.count in
    let request = c.args.request.now in
    let before = c.as_slice.result.now in
    let second = c.count_after-count.result in
    let content = content_report (listed request.items) table in
    let replies = (c.in_ok-content.ensures.counted table number shown).replies ∙ replies_in-replies number c.args.head.moment second content in
    subst (λ (outputs : List Output). IsCountOf outputs c.and.result)
    (answer_parts number c.args.head.moment count request.identifier request.acks c.args.failures.now (listed request.items) table before c.as_slice-2.result.now
    second c.count_after-count-2.result c.in_ok-content.content.replies c.requires.count (c.as_slice.ensures.value ∙ c.verdicts_before-before.ensures)
    (c.as_slice-2.ensures.value ∙ c.completed-after.ensures)
    (c.count_after-count.ensures.after ∙ ap (count_behind count) (c.len.ensures.value ∙ sym (ap length c.as_slice.ensures.value))) c.count_after-count-2.ensures.after replies)
    (subst (IsCountOf _) (sym c.and.ensures)
    (counted_on _ _ (and_then c.in_ok-first.first c.in_ok-content.content) c.in_ok-last.last
    (counted_on _ _ c.in_ok-first.first c.in_ok-content.content (c.in_ok-first.ensures.counted number) (c.in_ok-content.ensures.counted table number shown))
    (c.in_ok-last.ensures.counted number)))
