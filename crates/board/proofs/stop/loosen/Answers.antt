use Rattle.std.proofs.Common.{inl, inr, ℕ, false, get_or, ◌∙◌, ap, arith}
use Rattle.std.proofs.lemmas.Bool.{cases_eq}
use Rattle.board.proofs.stop.loosen.Goals as goal

pub loop-page-preserved : goal.loop-page-preserved
loop-page-preserved c =
    let so_far = c.loop-page.invariant in
    record {
      count = c.set_mark.ensures.count ∙ so_far.count;
      marked = λ p from to. elim (cases_eq p c.loop-page.page) [
        | inl here ↦ ap (λ (q : ℕ). get_or c.set_mark.new.loose.items q false) here ∙ c.set_mark.ensures.mark
        | inr other ↦ c.set_mark.ensures.others p other ∙ so_far.marked p from (omega arith)
      ];
      below = λ p lt. c.set_mark.ensures.others p (λ e. omega arith) ∙ so_far.below p lt;
      above = λ p le. c.set_mark.ensures.others p (λ e. omega arith) ∙ so_far.above p (omega arith);
    }
