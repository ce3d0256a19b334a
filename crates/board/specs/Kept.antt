-- How the history of a board in memory goes on.
use Rattle.std.specs.Prelude.{◌≡◌, ◌<◌, ◌*◌, Bool, false, List, [], ◌∷◌, ◌++◌, ℕ, length}
use Rattle.board.specs.declared.history.History.{History}
use Rattle.board.specs.declared.step.Step.{Step}
use Rattle.board.specs.History.{first_flash, sent_by_step}

-- One step more, which sent these octets.
pub record Grew (step : Step) (bytes : List ℕ) (old new : History) : Type 0 where
  pub blocks : new.blocks ≡ old.blocks
  pub first : new.first ≡ old.first
  pub steps : new.steps.items ≡ old.steps.items ++ step ∷ []
  pub sent : new.sent.items ≡ old.sent.items ++ bytes
  pub counted : sent_by_step step ≡ length bytes

-- No step more.
pub record Stayed (old new : History) : Type 0 where
  pub blocks : new.blocks ≡ old.blocks
  pub first : new.first ≡ old.first
  pub steps : new.steps.items ≡ old.steps.items
  pub sent : new.sent.items ≡ old.sent.items

-- No step yet, and nothing is loose. The pages hold this, and are erased or not.
pub record Begins (blocks : ℕ) (content : ℕ → List ℕ) (erased : Bool) (history : History) : Type 0 where
  pub blocks_are : history.blocks ≡ blocks
  pub content_is : (p : ℕ) → p < 256 * blocks → (first_flash history.first).content p ≡ content p
  pub erased_is : (p : ℕ) → (first_flash history.first).erased p ≡ erased
  pub loose : (p : ℕ) → (first_flash history.first).loose p ≡ false
  pub steps : history.steps.items ≡ []
  pub sent : history.sent.items ≡ []
