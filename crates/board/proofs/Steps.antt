-- What one step more of a board in memory changes, and that a call with no step changes nothing.
use Rattle.std.proofs.Common.{◌≡◌, ◌⊎◌, inl, inr, ℕ, zero, suc, ◌+◌, ◌≤◌, List, [], ◌∷◌, ◌++◌, length, take, refl, sym, ◌∙◌, ap, subst, arith, Result, Ok, Err}
use Rattle.std.specs.Prelude.{OnOk, OnErr}
use Rattle.std.proofs.lemmas.Bool.{cases_eq}
use Rattle.std.proofs.lemmas.List.{append-nil, length_push, take_all, take-append-le}
use Rattle.board.specs.declared.history.History.{History}
use Rattle.board.specs.declared.memory.MemBoard.{MemBoard}
use Rattle.board.specs.declared.step.Step.{Step}
use Rattle.board.specs.Flash.{Flash, IsImage}
use Rattle.board.specs.History.{first_flash, flash_after, flash_after_step, sent_by, sent_by_step}
use Rattle.board.specs.Kept.{Grew, Stayed}
use Rattle.board.specs.Laws.{content_pages}
use Rattle.board.specs.Memory.{memory_means, moment_of, sent_at}
use Rattle.board.specs.Moments.{LeavesOnly, SendsOnly}
use Rattle.board.proofs.Pages.{image_of_content}

-- one of the two happened
pub either_way : {T E : Type 0} (result : Result T E) (A B : Type 0) → OnOk result A → OnErr result B → A ⊎ B
either_way (Ok value) A B ok err = inl ok
either_way (Err fault) A B ok err = inr err

pub both_ok : {T E : Type 0} (result : Result T E) (A B : Type 0) → OnOk result A → OnOk result B → OnOk result (A × B)
both_ok (Ok value) A B a b = (a, b)
both_ok (Err fault) A B a b = tt

pub both_err : {T E : Type 0} (result : Result T E) (A B : Type 0) → OnErr result A → OnErr result B → OnErr result (A × B)
both_err (Ok value) A B a b = tt
both_err (Err fault) A B a b = (a, b)

pub ok_gives : {T E : Type 0} (result : Result T E) (A B : Type 0) → OnOk result A → (A → B) → OnOk result B
ok_gives (Ok value) A B a gives = gives a
ok_gives (Err fault) A B a gives = tt

pub err_gives : {T E : Type 0} (result : Result T E) (A B : Type 0) → OnErr result A → (A → B) → OnErr result B
err_gives (Ok value) A B a gives = tt
err_gives (Err fault) A B a gives = gives a

pub flash_after-push : (steps : List Step) (step : Step) (flash : Flash) → flash_after (steps ++ step ∷ []) flash ≡ flash_after_step step (flash_after steps flash)
flash_after-push [] step flash = refl
flash_after-push (first ∷ steps) step flash = flash_after-push steps step (flash_after_step first flash)

pub sent_by-push : (steps : List Step) (step : Step) → sent_by (steps ++ step ∷ []) ≡ sent_by steps + sent_by_step step
sent_by-push [] step = omega arith
sent_by-push (first ∷ steps) step = omega (arith, sent_by-push steps step)

sent_by-take : (t : ℕ) (steps : List Step) → sent_by (take t steps) ≤ sent_by steps
sent_by-take zero steps = omega arith
sent_by-take (suc t) [] = omega arith
sent_by-take (suc t) (step ∷ steps) = omega (arith, sent_by-take t steps)

take_now : (steps : List Step) → take (length steps) steps ≡ steps
take_now steps = take_all (length steps) steps (omega arith)

-- the flash now and after so many steps, and what was sent by then
abbrev pub flash_in : History → Flash
flash_in history = flash_after history.steps.items (first_flash history.first)

abbrev pub was_in : History → ℕ → Flash
was_in history t = flash_after (take t history.steps.items) (first_flash history.first)

abbrev pub sent_in : History → ℕ → List ℕ
sent_in history t = take (sent_by (take t history.steps.items)) history.sent.items

abbrev pub steps_in : History → ℕ
steps_in history = length history.steps.items

pub flash_now : (history : History) → was_in history (steps_in history) ≡ flash_in history
flash_now history = ap (λ (s : List Step). flash_after s (first_flash history.first)) (take_now history.steps.items)

same_image : (blocks' blocks : ℕ) (flash' flash : Flash) (image : ℕ → List ℕ) → blocks' ≡ blocks → flash' ≡ flash → IsImage blocks' flash' image → IsImage blocks flash image
same_image blocks' blocks flash' flash image counts is left =
    subst (λ (b : ℕ). IsImage b flash image) counts (subst (λ (f : Flash). IsImage blocks' f image) is left)

-- the content now is one of its images
pub content_seen : (history : History) → IsImage history.blocks (was_in history (steps_in history)) (flash_in history).content
content_seen history =
    same_image history.blocks history.blocks (flash_in history) (was_in history (steps_in history)) (flash_in history).content refl (sym (flash_now history))
    (image_of_content history.blocks (flash_in history) (content_pages history))

-- what was sent up to now
sent_now : (history : History) → sent_in history (steps_in history) ≡ history.sent.items
sent_now history =
    ap (λ (s : List Step). take (sent_by s) history.sent.items) (take_now history.steps.items)
    ∙ take_all (sent_by history.steps.items) history.sent.items (omega (arith, history.sent_is))

-- one step more
module _ (old new : History) (step : Step) (bytes : List ℕ) (grew : Grew step bytes old new) where
  pub grew_moment : steps_in new ≡ steps_in old + 1
  grew_moment = ap length grew.steps ∙ length_push old.steps.items step

  pub grew_flash : flash_in new ≡ flash_after_step step (flash_in old)
  grew_flash = (λ i. flash_after (grew.steps i) (first_flash (grew.first i))) ∙ flash_after-push old.steps.items step (first_flash old.first)

  front : (t : ℕ) → t ≤ steps_in old → take t new.steps.items ≡ take t old.steps.items
  front t le = ap (λ (s : List Step). take t s) grew.steps ∙ take-append-le t old.steps.items (step ∷ []) le

  pub grew_past : (t : ℕ) → t ≤ steps_in old → was_in new t ≡ was_in old t
  grew_past t le = λ i. flash_after (front t le i) (first_flash (grew.first i))

  pub grew_sent : sent_in new (steps_in new) ≡ sent_in old (steps_in old) ++ bytes
  grew_sent = sent_now new ∙ grew.sent ∙ ap (λ (octets : List ℕ). octets ++ bytes) (sym (sent_now old))

  grew_sent_past : (t : ℕ) → t ≤ steps_in old → sent_in new t ≡ sent_in old t
  grew_sent_past t le =
      let count = sent_by (take t old.steps.items) in
      ap (λ (s : List Step). take (sent_by s) new.sent.items) (front t le)
      ∙ ap (λ (octets : List ℕ). take count octets) grew.sent
      ∙ take-append-le count old.sent.items bytes (omega (arith, sent_by-take t old.steps.items, old.sent_is))

-- a step of the flash sends nothing
pub grew_quietly : (old new : History) (step : Step) → Grew step [] old new → sent_in new (steps_in new) ≡ sent_in old (steps_in old)
grew_quietly old new step grew = grew_sent old new step [] grew ∙ append-nil (sent_in old (steps_in old))

-- no step more
module _ (old new : History) (stayed : Stayed old new) where
  pub stayed_moment : steps_in new ≡ steps_in old
  stayed_moment = ap length stayed.steps

  pub stayed_flash : flash_in new ≡ flash_in old
  stayed_flash = λ i. flash_after (stayed.steps i) (first_flash (stayed.first i))

  stayed_past : (t : ℕ) → was_in new t ≡ was_in old t
  stayed_past t = λ i. flash_after (take t (stayed.steps i)) (first_flash (stayed.first i))

  pub stayed_sent : (t : ℕ) → sent_in new t ≡ sent_in old t
  stayed_sent t = λ i. take (sent_by (take t (stayed.steps i))) (stayed.sent i)

  pub stayed_quietly : sent_in new (steps_in new) ≡ sent_in old (steps_in old)
  stayed_quietly = stayed_sent (steps_in new) ∙ ap (sent_in old) stayed_moment

-- what a stop leaves, and what was sent, at each moment of a call of a board
module _ (old new : MemBoard) (step : Step) (bytes : List ℕ) (grew : Grew step bytes old.history new.history) where
  pub grew_leaves : (P : (ℕ → List ℕ) → Type 0)
      → ((image : ℕ → List ℕ) → IsImage old.history.blocks (flash_in old.history) image → P image)
      → ((image : ℕ → List ℕ) → IsImage old.history.blocks (flash_after_step step (flash_in old.history)) image → P image)
      → LeavesOnly memory_means old new P
  grew_leaves P before after = record {
    later = omega (arith, long);
    each = λ t image from to left. elim (cases_eq t (moment_of old)) [
      | inl now ↦ before image (same_image new.history.blocks old.history.blocks (was_in new.history t) (flash_in old.history) image grew.blocks (past t (omega arith) ∙ ap (was_in old.history) now ∙ flash_now old.history) left)
      | inr later ↦
          let end : t ≡ moment_of new = omega (arith, long) in
          after image (same_image new.history.blocks old.history.blocks (was_in new.history t) (flash_after_step step (flash_in old.history)) image grew.blocks (ap (was_in new.history) end ∙ flash_now new.history ∙ grew_flash old.history new.history step bytes grew) left)
    ];
    past = λ t image le left. same_image new.history.blocks old.history.blocks (was_in new.history t) (was_in old.history t) image grew.blocks (past t le) left;
    kept = λ t image le left. same_image old.history.blocks new.history.blocks (was_in old.history t) (was_in new.history t) image (sym grew.blocks) (sym (past t le)) left;
  }
    where
      past : (t : ℕ) → t ≤ moment_of old → was_in new.history t ≡ was_in old.history t
      past = grew_past old.history new.history step bytes grew

      long : moment_of new ≡ moment_of old + 1
      long = grew_moment old.history new.history step bytes grew

  pub grew_sends : (P : List ℕ → Type 0) → P (sent_at old (moment_of old)) → P (sent_at old (moment_of old) ++ bytes) → SendsOnly memory_means old new P
  grew_sends P before after = record {
    later = omega (arith, long);
    each = λ t from to. elim (cases_eq t (moment_of old)) [
      | inl now ↦ subst P (sym (past t (omega arith) ∙ ap (sent_at old) now)) before
      | inr later ↦
          let end : t ≡ moment_of new = omega (arith, long) in
          subst P (sym (ap (sent_at new) end ∙ grew_sent old.history new.history step bytes grew)) after
    ];
    past = past;
  }
    where
      past : (t : ℕ) → t ≤ moment_of old → sent_at new t ≡ sent_at old t
      past = grew_sent_past old.history new.history step bytes grew

      long : moment_of new ≡ moment_of old + 1
      long = grew_moment old.history new.history step bytes grew

pub stayed_leaves : (old new : MemBoard) (P : (ℕ → List ℕ) → Type 0) → Stayed old.history new.history
    → ((image : ℕ → List ℕ) → IsImage old.history.blocks (flash_in old.history) image → P image) → LeavesOnly memory_means old new P
stayed_leaves old new P stayed now = record {
  later = omega (arith, stayed_moment old.history new.history stayed);
  each = λ t image from to left.
      let end : t ≡ moment_of old = omega (arith, stayed_moment old.history new.history stayed) in
      now image (same_image new.history.blocks old.history.blocks (was_in new.history t) (flash_in old.history) image stayed.blocks (past t ∙ ap (was_in old.history) end ∙ flash_now old.history) left);
  past = λ t image le left. same_image new.history.blocks old.history.blocks (was_in new.history t) (was_in old.history t) image stayed.blocks (past t) left;
  kept = λ t image le left. same_image old.history.blocks new.history.blocks (was_in old.history t) (was_in new.history t) image (sym stayed.blocks) (sym (past t)) left;
}
  where
    past : (t : ℕ) → was_in new.history t ≡ was_in old.history t
    past = stayed_past old.history new.history stayed
