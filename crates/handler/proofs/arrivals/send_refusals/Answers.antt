use Rattle.std.proofs.Common.{ℕ, ◌+◌, List, [], ◌∷◌, ◌++◌, drop, get_or, sym, ◌∙◌, ap, subst, arith, rules}
use Rattle.std.proofs.lemmas.List.{take_all}
use Rattle.octet_fields.proofs.Results.{on_err}
use Rattle.pst_model.proofs.Counted.{count_behind-more}
use Rattle.pst_model.specs.Replies.{reply}
use Rattle.pst_model.specs.Reports.{count_behind}
use Rattle.pst_model.specs.Rules.{Output}
use Rattle.report_lines.proofs.Sendings.{breaks_early, breaks_on, lines_none, lines_on}
use Rattle.report_lines.specs.Counting.{IsCountOf}
use Rattle.report_lines.specs.Sending.{BreaksIn, SendsLines}
use Rattle.store_put.specs.Refusals.{report_of}
use Rattle.store_put.specs.declared.refusals.RefusedPut.{RefusedPut}
use Rattle.handler.proofs.RefusedPuts.{counted_too, no_store, refusals-more, refusals-split}
use Rattle.handler.specs.Arriving.{refusals_from}
use Rattle.handler.proofs.arrivals.send_refusals.Goals as goal

pub loop-refusal-init : goal.loop-refusal-init
loop-refusal-init g c =
    let old = c.args.board.now in
    record {
      next = omega (arith, c.requires.count);
      below = c.requires.count;
      sends = λ number. lines_none g.B.Board.means old (λ image told left. g.met.B.Board.images_now old image told left);
      counted = search rules;
      forwarded = search rules;
      retrieved = search rules;
      replies = search rules;
      octets = search rules;
    }

pub returns-in_err-one-clause-breaks : goal.returns-in_err-one-clause-breaks
returns-in_err-one-clause-breaks g c =
    let means = g.B.Board.means in
    let so_far = c.loop-refusal.invariant in
    let at = c.loop-refusal.refusal-index in
    let first = c.args.head.count in
    let moment = c.args.head.moment in
    let refused = c.args.refused.now in
    let report = report_of (get_or refused at no_store) in
    on_err c.from_residual.result
    (λ (number : ℕ).
    subst (λ (outputs : List Output). BreaksIn means c.args.board.now c.send_event.new.board outputs)
    (ap (λ (outputs : List Output). outputs ++ refusals_from number moment (count_behind first (at + 1)) (drop (at + 1) refused))
    (sym (refusals-more number moment first refused at c.requires.count (omega arith)))
    ∙ sym (refusals-split number moment first refused (at + 1) c.requires.count (omega arith)))
    (breaks_early means c.args.board.now c.send_event.new.board _ (refusals_from number moment (count_behind first (at + 1)) (drop (at + 1) refused))
    (breaks_on means c.args.board.now c.loop-refusal.board c.send_event.new.board _ (reply number moment (count_behind first at) report ∷ [])
    (so_far.sends number)
    (subst (λ (n : ℕ). BreaksIn means c.loop-refusal.board c.send_event.new.board (reply number moment n report ∷ [])) so_far.next (c.in_err-one.ensures.breaks number)))))

pub loop-refusal-preserved : goal.loop-refusal-preserved
loop-refusal-preserved g c =
    let means = g.B.Board.means in
    let so_far = c.loop-refusal.invariant in
    let at = c.loop-refusal.refusal-index in
    let first = c.args.head.count in
    let moment = c.args.head.moment in
    let refused = c.args.refused.now in
    let report = report_of (get_or refused at no_store) in
    let one = c.in_ok-one.one in
    let alone = c.in_ok-one.ensures.counted 0 in
    let more = λ (number : ℕ). refusals-more number moment first refused at c.requires.count (omega arith) in
    record {
      next = c.count_after-next.ensures.after ∙ ap (λ (n : ℕ). count_behind n 1) so_far.next ∙ count_behind-more first at 1;
      below = c.count_after-next.ensures.below;
      sends = λ number.
          subst (λ (outputs : List Output). SendsLines means c.args.board.now c.send_event.new.board outputs) (sym (more number))
          (lines_on means c.args.board.now c.loop-refusal.board c.send_event.new.board _ (reply number moment (count_behind first at) report ∷ [])
          (so_far.sends number)
          (subst (λ (n : ℕ). SendsLines means c.loop-refusal.board c.send_event.new.board (reply number moment n report ∷ [])) so_far.next (c.in_ok-one.ensures.sends number)));
      counted = λ number.
          subst (λ (outputs : List Output). IsCountOf outputs (record c.loop-refusal.sent { replies = c.loop-refusal.sent.replies + 1; octets = c.loop-refusal.sent.octets + one.octets })) (sym (more number))
          (counted_too _ (reply number moment (count_behind first at) report) c.loop-refusal.sent one (so_far.counted number)
          (subst (λ (n : ℕ). IsCountOf (reply number moment n report ∷ []) one) so_far.next (c.in_ok-one.ensures.counted number))
          alone.forwarded alone.retrieved alone.replies);
      forwarded = so_far.forwarded;
      retrieved = so_far.retrieved;
      replies = omega (arith, so_far.replies);
      octets = omega (arith, so_far.octets, c.in_ok-one.ensures.small.octets);
    }

pub returns-clause-sends : goal.returns-clause-sends
returns-clause-sends g c number =
    let means = g.B.Board.means in
    subst (λ (l : List RefusedPut). SendsLines means c.args.board.now c.loop-refusal.board (refusals_from number c.args.head.moment c.args.head.count l))
    (take_all c.loop-refusal.refusal-index c.args.refused.now (omega arith)) (c.loop-refusal.invariant.sends number)
