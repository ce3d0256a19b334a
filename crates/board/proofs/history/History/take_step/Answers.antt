use Rattle.std.proofs.Common.{◌≡◌, inl, inr, ℕ, List, [], ◌∷◌, ◌++◌, get_or, refl, sym, ◌∙◌, ap}
use Rattle.std.proofs.lemmas.List.{append-nil}
use Rattle.board.specs.Flash.{Flash}
use Rattle.board.specs.History.{flash_after_step}
use Rattle.board.proofs.Histories.{page_after, page_still, sent_after, sent_still, steps_still_fit}
use Rattle.board.proofs.Steps.{both_err, both_ok, either_way, flash_in}
use Rattle.board.proofs.history.History.take_step.Goals as goal

pub invariant_of-self : goal.invariant_of-self
invariant_of-self c =
    let old = c.args.self.now in
    let step = c.args.step in
    let all = c.keep_step.ensures in
    let pages = c.keep_step.new.pages.items in
    let steps = c.keep_step.new.steps.items in
    record {
      least = old.least;
      most = old.most;
      first_fits = old.first_fits;
      steps_fit = steps_still_fit old steps step c.keep_step.result all.ok all.err c.requires.fits;
      all_pages = all.count ∙ old.all_pages;
      pages_are = λ p lt. elim (either_way c.keep_step.result ((steps ≡ old.steps.items ++ step ∷ []) × ((flash : Flash) (p : ℕ) → get_or old.pages.items p [] ≡ flash.content p → get_or pages p [] ≡ (flash_after_step step flash).content p)) ((steps ≡ old.steps.items) × (pages ≡ old.pages.items)) (both_ok c.keep_step.result _ _ all.ok all.ok_pages) (both_err c.keep_step.result _ _ all.err all.err_pages)) [
        | inl more ↦ page_after old steps step more.0 p (get_or pages p []) (more.1 (flash_in old) p (old.pages_are p lt))
        | inr same ↦ page_still old steps same.0 p (get_or pages p []) (ap (λ (all : List (List ℕ)). get_or all p []) same.1 ∙ old.pages_are p lt)
      ];
      sent_is = elim (either_way c.keep_step.result (steps ≡ old.steps.items ++ step ∷ []) (steps ≡ old.steps.items) all.ok all.err) [
        | inl more ↦ sent_after old steps step more old.sent.items [] (sym (append-nil old.sent.items)) c.requires.quiet
        | inr same ↦ sent_still old steps same old.sent.items refl
      ];
    }
