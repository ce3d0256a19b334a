use Rattle.std.proofs.Common.{◌≡◌, ◌+◌, [], ◌∷◌, ◌++◌, take, sym, ◌∙◌, ap, subst, ℕ, arith}
use Rattle.std.proofs.lemmas.List.{take_more}
use Rattle.board.specs.declared.step.Step.{Step}
use Rattle.board.specs.History.{first_flash, flash_after, flash_after_step}
use Rattle.board.specs.Stopped.{HasPages, firm_after, firm_after_step}
use Rattle.board.proofs.Walks.{firm_next, flash_next, same_shows}
use Rattle.board.proofs.stop.walk_to.Goals as goal

pub loop-index-preserved : goal.loop-index-preserved
loop-index-preserved c =
    let history = c.args.history.now in
    let steps = history.steps.items in
    let index = c.loop-index.index in
    let step = c.index.result.now in
    let so_far = c.loop-index.invariant in
    let first = first_flash history.first in
    let was = flash_after (take index steps) first in
    let firm = firm_after (take index steps) first in
    let is : take (index + 1) steps ≡ take index steps ++ step ∷ [] = take_more steps index step (omega arith) ∙ ap (λ (s : Step). take index steps ++ s ∷ []) (sym c.index.ensures) in
    record {
      pages = subst (λ (n : ℕ). HasPages n c.step_on.new.walk) so_far.pages.loose c.step_on.ensures.pages;
      shows = λ p lt. same_shows (flash_after_step step was) (flash_after (take (index + 1) steps) first) (firm_after_step step was firm) (firm_after (take (index + 1) steps) first) c.step_on.new.walk p
          (flash_next steps index step is first) (firm_next steps index step is first) (c.step_on.ensures.shows was firm p (omega (arith, so_far.pages.loose)) (so_far.shows p lt));
    }
