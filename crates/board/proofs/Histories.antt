-- That a history with one step more is one.
use Rattle.std.proofs.Common.{◌≡◌, inl, inr, ℕ, ◌+◌, ◌*◌, All, List, [], ◌∷◌, ◌++◌, length, sym, ◌∙◌, ap, arith, Result}
use Rattle.std.specs.Prelude.{OnOk, OnErr}
use Rattle.std.proofs.lemmas.List.{length-append}
use Rattle.std.proofs.lemmas.List.Elements.{All-push, All-same}
use Rattle.board.specs.declared.history.History.{History}
use Rattle.board.specs.declared.step.Step.{Step}
use Rattle.board.specs.Flash.{Flash}
use Rattle.board.specs.History.{IsStep, first_flash, flash_after, flash_after_step, sent_by, sent_by_step}
use Rattle.board.proofs.Steps.{either_way, flash_after-push, flash_in, sent_by-push}

-- one step more, or none, by how a call ended
module _ {E : Type 0} (old : History) (steps' : List Step) (step : Step) (result : Result (Unit {0}) E)
    (ok : OnOk result (steps' ≡ old.steps.items ++ step ∷ [])) (err : OnErr result (steps' ≡ old.steps.items)) where
  pub steps_still_fit : IsStep (256 * old.blocks) step → All (IsStep (256 * old.blocks)) steps'
  steps_still_fit fits = elim (either_way result (steps' ≡ old.steps.items ++ step ∷ []) (steps' ≡ old.steps.items) ok err) [
    | inl more ↦ All-same (IsStep (256 * old.blocks)) steps' (old.steps.items ++ step ∷ []) more (All-push (IsStep (256 * old.blocks)) old.steps.items step old.steps_fit fits)
    | inr same ↦ All-same (IsStep (256 * old.blocks)) steps' old.steps.items same old.steps_fit
  ]

-- the pages and what was sent, after one step more and after none
module _ (old : History) (steps' : List Step) (step : Step) (more : steps' ≡ old.steps.items ++ step ∷ []) where
  pub page_after : (p : ℕ) (page : List ℕ) → page ≡ (flash_after_step step (flash_in old)).content p → page ≡ (flash_after steps' (first_flash old.first)).content p
  page_after p page is =
      is ∙ sym (ap (λ (f : Flash). f.content p) (ap (λ (s : List Step). flash_after s (first_flash old.first)) more ∙ flash_after-push old.steps.items step (first_flash old.first)))

  pub sent_after : (sent bytes : List ℕ) → sent ≡ old.sent.items ++ bytes → sent_by_step step ≡ length bytes → sent_by steps' ≡ length sent
  sent_after sent bytes gained counts =
      let by_new : sent_by steps' ≡ sent_by old.steps.items + sent_by_step step = ap sent_by more ∙ sent_by-push old.steps.items step in
      omega (arith, by_new, ap length gained, length-append old.sent.items bytes, old.sent_is, counts)

module _ (old : History) (steps' : List Step) (same : steps' ≡ old.steps.items) where
  pub page_still : (p : ℕ) (page : List ℕ) → page ≡ (flash_in old).content p → page ≡ (flash_after steps' (first_flash old.first)).content p
  page_still p page is = is ∙ sym (ap (λ (s : List Step). (flash_after s (first_flash old.first)).content p) same)

  pub sent_still : (sent : List ℕ) → sent ≡ old.sent.items → sent_by steps' ≡ length sent
  sent_still sent is = ap sent_by same ∙ old.sent_is ∙ sym (ap length is)
