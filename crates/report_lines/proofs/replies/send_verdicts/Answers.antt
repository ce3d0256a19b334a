use Rattle.std.proofs.Common.{◌≡◌, ℕ, ◌+◌, List, [], ◌∷◌, ◌++◌, length, map, drop, get_or, sym, ◌∙◌, ap, subst, arith, rules}
use Rattle.std.proofs.lemmas.List.{take_all}
use Rattle.session_text.proofs.Buffers.{on_err}
use Rattle.pst_model.specs.declared.verdicts.Verdict.{Verdict}
use Rattle.pst_model.specs.declared.verdicts.Verdict.TheVariants.{Accepted}
use Rattle.pst_model.specs.Replies.{replies_from, reply}
use Rattle.pst_model.specs.Output.{output_line}
use Rattle.pst_model.specs.Reports.{count_behind, report_packet, verdict_report}
use Rattle.pst_model.specs.Rules.{Output}
use Rattle.pst_model.proofs.Counted.{count_behind-more}
use Rattle.report_lines.specs.Counting.{IsCountOf}
use Rattle.report_lines.specs.Sending.{BreaksIn, SendsLines}
use Rattle.report_lines.proofs.Replying.{counted_more, replies-more, replies-split}
use Rattle.report_lines.proofs.Sendings.{breaks_early, breaks_on, lines_none, lines_on}
use Rattle.report_lines.proofs.replies.send_verdicts.Goals as goal

pub loop-verdict-init : goal.loop-verdict-init
loop-verdict-init g c =
    let old = c.args.board.now in
    record {
      next = omega (arith, c.requires.count);
      below = c.requires.count;
      sends = λ number. lines_none g.B.Board.means old (λ image told left. g.met.B.Board.images_now old image told left);
      counted = search rules;
      forwarded = search rules;
      retrieved = search rules;
      replies = search rules;
      octets = search rules;
    }

pub returns-in_err-octets-clause-breaks : goal.returns-in_err-octets-clause-breaks
returns-in_err-octets-clause-breaks g c =
    let means = g.B.Board.means in
    let so_far = c.loop-verdict.invariant in
    let at = c.loop-verdict.verdict-index in
    let first = c.args.count in
    let verdicts = c.args.verdicts.now in
    let count : c.loop-verdict.next ≡ count_behind first at = so_far.next in
    on_err c.from_residual.result
    (λ (number : ℕ).
    subst (λ (outputs : List Output). BreaksIn means c.args.board.now c.send_verdict.new.board outputs)
    (ap (λ (outputs : List Output). outputs ++ replies_from number c.args.moment (count_behind first (at + 1)) (map (verdict_report c.args.request) (drop (at + 1) verdicts)))
    (sym (replies-more number c.args.moment first c.args.request verdicts at c.requires.count (omega arith)))
    ∙ sym (replies-split number c.args.moment first c.args.request verdicts (at + 1) c.requires.count (omega arith)))
    (breaks_early means c.args.board.now c.send_verdict.new.board _ (replies_from number c.args.moment (count_behind first (at + 1)) (map (verdict_report c.args.request) (drop (at + 1) verdicts)))
    (breaks_on means c.args.board.now c.loop-verdict.board c.send_verdict.new.board _ (reply number c.args.moment (count_behind first at) (verdict_report c.args.request (get_or verdicts at Accepted)) ∷ [])
    (so_far.sends number)
    (subst (λ (n : ℕ). BreaksIn means c.loop-verdict.board c.send_verdict.new.board (reply number c.args.moment n (verdict_report c.args.request (get_or verdicts at Accepted)) ∷ [])) count (c.in_err-octets.ensures.breaks number)))))

pub loop-verdict-preserved : goal.loop-verdict-preserved
loop-verdict-preserved g c =
    let means = g.B.Board.means in
    let so_far = c.loop-verdict.invariant in
    let at = c.loop-verdict.verdict-index in
    let first = c.args.count in
    let verdicts = c.args.verdicts.now in
    let count : c.loop-verdict.next ≡ count_behind first at = so_far.next in
    let more = λ (number : ℕ). replies-more number c.args.moment first c.args.request verdicts at c.requires.count (omega arith) in
    record {
      next = c.next_count-next.ensures.next ∙ ap (λ (n : ℕ). count_behind n 1) count ∙ count_behind-more first at 1;
      below = c.next_count-next.ensures.below;
      sends = λ number.
          subst (λ (outputs : List Output). SendsLines means c.args.board.now c.send_verdict.new.board outputs) (sym (more number))
          (lines_on means c.args.board.now c.loop-verdict.board c.send_verdict.new.board _ (reply number c.args.moment (count_behind first at) (verdict_report c.args.request (get_or verdicts at Accepted)) ∷ [])
          (so_far.sends number)
          (subst (λ (n : ℕ). SendsLines means c.loop-verdict.board c.send_verdict.new.board (reply number c.args.moment n (verdict_report c.args.request (get_or verdicts at Accepted)) ∷ [])) count (c.in_ok-octets.ensures.sends number)));
      counted = λ number.
          subst (λ (outputs : List Output). IsCountOf outputs (record c.loop-verdict.sent { replies = c.loop-verdict.sent.replies + 1; octets = c.loop-verdict.sent.octets + c.from.result })) (sym (more number))
          (counted_more _ c.loop-verdict.sent number c.args.moment (count_behind first at) (verdict_report c.args.request (get_or verdicts at Accepted)) c.from.result (so_far.counted number)
          (c.from.ensures ∙ c.in_ok-octets.ensures.octets
          ∙ ap (λ (n : ℕ). length (output_line 0 (report_packet n c.args.moment (verdict_report c.args.request (get_or verdicts at Accepted))))) count));
      forwarded = so_far.forwarded;
      retrieved = so_far.retrieved;
      replies = omega (arith, so_far.replies);
      octets = omega (arith, so_far.octets, c.in_ok-octets.ensures.few, c.from.ensures);
    }

pub returns-clause-sends : goal.returns-clause-sends
returns-clause-sends g c number =
    let means = g.B.Board.means in
    subst (λ (l : List Verdict). SendsLines means c.args.board.now c.loop-verdict.board (replies_from number c.args.moment c.args.count (map (verdict_report c.args.request) l)))
    (take_all c.loop-verdict.verdict-index c.args.verdicts.now (omega arith)) (c.loop-verdict.invariant.sends number)

pub returns-clause-small : goal.returns-clause-small
returns-clause-small g c =
    let so_far = c.loop-verdict.invariant in
    record {
      forwarded = omega (arith, so_far.forwarded);
      replies = omega (arith, so_far.replies);
      retrieved = omega (arith, so_far.retrieved);
      octets = omega (arith, so_far.octets);
    }
