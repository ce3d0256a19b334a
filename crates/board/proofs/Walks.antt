-- What each page held when it was last firm, after one step more.
use Rattle.std.proofs.Common.{◌≡◌, ℕ, ◌+◌, ◌*◌, ◌<◌, Bool, List, [], ◌∷◌, ◌++◌, take, refl, sym, ◌∙◌, ap, subst, arith}
use Rattle.board.specs.declared.history.History.{History}
use Rattle.board.specs.declared.step.Step.{Step}
use Rattle.board.specs.declared.stop.Torn.{Torn}
use Rattle.board.specs.Flash.{Flash, IsImage}
use Rattle.board.specs.History.{first_flash, flash_after, flash_after_step}
use Rattle.board.specs.Kept.{Begins}
use Rattle.board.specs.Laws.{content_pages}
use Rattle.board.specs.declared.stop.Walk.{Walk}
use Rattle.board.specs.Stopped.{Shows, firm_after, firm_after_step, firm_from, left_by, stopped}
use Rattle.board.proofs.Pages.{elsewhere}
use Rattle.board.proofs.Steps.{flash_after-push, flash_in}

firm_from-push : (steps : List Step) (step : Step) (flash : Flash) (firm : ℕ → List ℕ) → firm_from (steps ++ step ∷ []) flash firm ≡ firm_after_step step (flash_after steps flash) (firm_from steps flash firm)
firm_from-push [] step flash firm = refl
firm_from-push (first ∷ steps) step flash firm = firm_from-push steps step (flash_after_step first flash) (firm_after_step first flash firm)

module _ (steps : List Step) (index : ℕ) (step : Step) (is : take (index + 1) steps ≡ take index steps ++ step ∷ []) (flash : Flash) where
  pub flash_next : flash_after (take (index + 1) steps) flash ≡ flash_after_step step (flash_after (take index steps) flash)
  flash_next = ap (λ (s : List Step). flash_after s flash) is ∙ flash_after-push (take index steps) step flash

  pub firm_next : firm_after (take (index + 1) steps) flash ≡ firm_after_step step (flash_after (take index steps) flash) (firm_after (take index steps) flash)
  firm_next = ap (λ (s : List Step). firm_from s flash flash.content) is ∙ firm_from-push (take index steps) step flash flash.content

pub same_shows : (flash flash' : Flash) (firm firm' : ℕ → List ℕ) (walk : Walk) (p : ℕ) → flash' ≡ flash → firm' ≡ firm → Shows flash firm walk p → Shows flash' firm' walk p
same_shows flash flash' firm firm' walk p flashes firms shows =
    subst (λ (f : Flash). Shows f firm' walk p) (sym flashes) (subst (λ (g : ℕ → List ℕ). Shows flash g walk p) (sym firms) shows)

-- a history that has no step yet holds what it began with
pub begun : (history : History) (blocks : ℕ) (content : ℕ → List ℕ) (erased : Bool) → Begins blocks content erased history
    → (p : ℕ) → p < 256 * blocks → (flash_in history).content p ≡ content p
begun history blocks content erased begins p lt =
    ap (λ (s : List Step). (flash_after s (first_flash history.first)).content p) begins.steps ∙ begins.content_is p lt

-- what a stop leaves is an image of the flash
pub stopped_image : (blocks : ℕ) (torn : Torn) (flash : Flash) (firm : ℕ → List ℕ) (history : History) → history.blocks ≡ blocks
    → ((p : ℕ) → p < 256 * blocks → (flash_in history).content p ≡ stopped torn flash firm p) → IsImage blocks flash (flash_in history).content
stopped_image blocks torn flash firm history same holds = record {
  pages = λ p lt. content_pages history p (omega (arith, same));
  firm_pages = λ p lt loose. holds p lt ∙ elsewhere (flash.loose p) (left_by torn (flash.content p) (firm p)) (flash.content p) loose;
}
