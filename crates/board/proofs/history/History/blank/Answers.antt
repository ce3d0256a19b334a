use Rattle.std.proofs.Common.{List, sym, ◌∙◌, ap}
use Rattle.board.specs.declared.step.First.TheVariants.{Blank}
use Rattle.board.specs.declared.step.Step.{Step}
use Rattle.board.specs.History.{first_flash, flash_after}
use Rattle.board.proofs.Pages.{blank_page}
use Rattle.board.proofs.history.History.blank.Goals as goal

pub invariant_of-result-clause-first_fits : goal.invariant_of-result-clause-first_fits
invariant_of-result-clause-first_fits c = λ p lt. blank_page

pub invariant_of-result-clause-pages_are : goal.invariant_of-result-clause-pages_are
invariant_of-result-clause-pages_are c = λ p lt.
    c.in_ok-pages.ensures.blank p lt ∙ sym (ap (λ (steps : List Step). (flash_after steps (first_flash Blank)).content p) c.new.ensures.items)
