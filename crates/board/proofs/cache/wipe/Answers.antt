use Rattle.std.proofs.Common.{inl, inr, ℕ, [], get_or, ◌∙◌, ap, arith}
use Rattle.std.proofs.lemmas.Bool.{cases_eq}
use Rattle.board.specs.Flash.{blank}
use Rattle.board.proofs.cache.wipe.Goals as goal

pub loop-page-preserved : goal.loop-page-preserved
unfolding blank
loop-page-preserved c =
    let so_far = c.loop-page.invariant in
    record {
      count = c.put.ensures.count ∙ so_far.count;
      wiped = λ p from to. elim (cases_eq p c.loop-page.page) [
        | inl here ↦ ap (λ (q : ℕ). get_or c.put.new.pages.items q []) here ∙ c.put.ensures.page
        | inr other ↦ c.put.ensures.others p other ∙ so_far.wiped p from (omega arith)
      ];
      below = λ p lt. c.put.ensures.others p (λ e. omega arith) ∙ so_far.below p lt;
      above = λ p le. c.put.ensures.others p (λ e. omega arith) ∙ so_far.above p (omega arith);
    }
