use Rattle.std.proofs.Common.{ℕ, [], ◌∷◌, refl, sym, ◌∙◌, subst}
use Rattle.pst_model.specs.Replies.{reply}
use Rattle.pst_model.specs.Reports.{report_packet, verdict_report}
use Rattle.report_lines.proofs.Counted.{counted_one}
use Rattle.report_lines.specs.Counting.{IsCountOf}
use Rattle.report_lines.specs.Sending.{BreaksIn, SendsLines}
use Rattle.vault.specs.Changing.{with_report}
use Rattle.handler.proofs.Asked.{change_made, change_quiet, refused_steps}
use Rattle.handler.proofs.InStep.{answers_done, answers_flash, answers_link, works_within}
use Rattle.handler.proofs.Shown.{reports_of}
use Rattle.handler.proofs.requests.refuse.Goals as goal

pub returns-in_default-clause-answers : goal.returns-in_default-clause-answers
returns-in_default-clause-answers g c =
    let means = g.B.Board.means in
    let old = c.args.board.now in
    let mid = c.report.new.board in
    let steps = refused_steps c.args.request c.args.refused c.args.moment in
    answers_flash means old mid c.args.vault.now steps
    (change_quiet means old mid c.args.vault.now c.report.new.self steps with_report (λ number table. refl) c.in_default.ensures.touches c.in_default.ensures.any_moment)
    c.report.new.self c.in_default.ensures.cause

pub returns-in-Ok-send_verdict-clause-answers : goal.returns-in-Ok-send_verdict-clause-answers
returns-in-Ok-send_verdict-clause-answers g c =
    let means = g.B.Board.means in
    let old = c.args.board.now in
    let mid = c.report.new.board in
    let new = c.send_verdict.new.board in
    let vault = c.args.vault.now in
    let moment = c.args.moment in
    let report = verdict_report c.args.request c.args.refused in
    let steps = refused_steps c.args.request c.args.refused moment in
    let sent = record c.default.result { replies = 1; octets = c.from.result } in
    let counted = λ (number : ℕ). counted_one number (report_packet c.in-Ok.count moment report) c.from.result c.default.result
    (c.from.ensures ∙ c.in-Ok-send_verdict.ensures.octets) c.default.ensures.0 c.default.ensures.1.1.0 in
    answers_done means old mid new vault c.report.new.self steps c.requires.board
    (change_made means old mid vault c.report.new.self steps with_report (λ number table. refl) c.in-Ok.ensures.touches c.in-Ok.ensures.any_moment
    c.in-Ok.ensures.stands c.in-Ok.ensures.sound c.in-Ok.ensures.blocks c.in-Ok.ensures.no_fault)
    sent (reply 0 moment c.in-Ok.count report ∷ []) (c.in-Ok-send_verdict.ensures.sends 0)
    (λ told table number stands.
    subst (λ (n : ℕ). SendsLines means mid new (reply number moment n report ∷ [])) (c.in-Ok.ensures.count ∙ sym (reports_of vault (means.flash old) table stands))
    (c.in-Ok-send_verdict.ensures.sends number))
    (λ told table number stands.
    subst (λ (n : ℕ). IsCountOf (reply number moment n report ∷ []) sent) (c.in-Ok.ensures.count ∙ sym (reports_of vault (means.flash old) table stands))
    (counted number))

pub returns-in-Ok-send_verdict-clause-work : goal.returns-in-Ok-send_verdict-clause-work
returns-in-Ok-send_verdict-clause-work g c = works_within c.in-Ok.ensures.touches.work (c.in-Ok-send_verdict.ensures.sends 0).work

pub returns-in-Err-clause-answers : goal.returns-in-Err-clause-answers
returns-in-Err-clause-answers g c =
    let means = g.B.Board.means in
    let old = c.args.board.now in
    let mid = c.report.new.board in
    let new = c.send_verdict.new.board in
    let vault = c.args.vault.now in
    let moment = c.args.moment in
    let report = verdict_report c.args.request c.args.refused in
    let steps = refused_steps c.args.request c.args.refused moment in
    answers_link means old mid new vault c.report.new.self steps c.requires.board
    (change_made means old mid vault c.report.new.self steps with_report (λ number table. refl) c.in-Ok.ensures.touches c.in-Ok.ensures.any_moment
    c.in-Ok.ensures.stands c.in-Ok.ensures.sound c.in-Ok.ensures.blocks c.in-Ok.ensures.no_fault)
    (reply 0 moment c.in-Ok.count report ∷ []) (c.in-Err.ensures.breaks 0)
    (λ told table number stands.
    subst (λ (n : ℕ). BreaksIn means mid new (reply number moment n report ∷ [])) (c.in-Ok.ensures.count ∙ sym (reports_of vault (means.flash old) table stands))
    (c.in-Err.ensures.breaks number))

pub returns-in-Err-clause-work : goal.returns-in-Err-clause-work
returns-in-Err-clause-work g c = works_within c.in-Ok.ensures.touches.work (c.in-Err.ensures.breaks 0).work
