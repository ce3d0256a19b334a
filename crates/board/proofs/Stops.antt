-- How runs of calls go on: what a stop leaves at each moment of two runs, one after the other.
use Rattle.std.proofs.Common.{◌≡◌, ℕ, List, ⊎_elim, subst, arith}
use Rattle.std.proofs.lemmas.Bool.{cases_lt}
use Rattle.board.specs.Meaning.{BoardMeaning}
use Rattle.board.specs.Moments.{LeavesFrom, LeavesInTurn, LeavesOnly}

module _ {B : Type 0} (means : BoardMeaning B) where
  -- before the first call
  pub started : (old : B) (P : (ℕ → List ℕ) → Type 0)
      → ((image : ℕ → List ℕ) → means.images old (means.moment old) image → P image) → LeavesOnly means old old P
  started old P here = record {
    later = omega arith;
    each = λ t image from to left.
        let now : t ≡ means.moment old = omega arith in
        here image (subst (λ (u : ℕ). means.images old u image) now left);
    past = λ t image le left. left;
    kept = λ t image le left. left;
  }

  -- a run with P, and then one with Q, where Q gives P
  pub goes_on : (old mid new : B) (P Q : (ℕ → List ℕ) → Type 0)
      → LeavesOnly means old mid P → LeavesOnly means mid new Q
      → ((image : ℕ → List ℕ) → Q image → P image) → LeavesOnly means old new P
  goes_on old mid new P Q first second gives = record {
    later = omega (arith, first.later, second.later);
    each = λ t image from to left. ⊎_elim
        (λ after. gives image (second.each t image (omega arith) to left))
        (λ before. first.each t image from before (second.past t image before left))
        (cases_lt (means.moment mid) t);
    past = λ t image le left. first.past t image le (second.past t image (omega (arith, le, first.later)) left);
    kept = λ t image le left. second.kept t image (omega (arith, le, first.later)) (first.kept t image le left);
  }

  -- a run with Q, where Q gives P
  pub weaker : (old new : B) (P Q : (ℕ → List ℕ) → Type 0) → LeavesOnly means old new Q
      → ((image : ℕ → List ℕ) → Q image → P image) → LeavesOnly means old new P
  weaker old new P Q run gives = record {
    later = run.later;
    each = λ t image from to left. gives image (run.each t image from to left);
    past = run.past;
    kept = run.kept;
  }

  -- two facts of each image
  pub leaves_both : (old new : B) (P Q R : (ℕ → List ℕ) → Type 0) → LeavesOnly means old new P → LeavesOnly means old new Q
      → ((image : ℕ → List ℕ) → P image → Q image → R image) → LeavesOnly means old new R
  leaves_both old new P Q R first second gives = record {
    later = first.later;
    each = λ t image from to left. gives image (first.each t image from to left) (second.each t image from to left);
    past = first.past;
    kept = first.kept;
  }

  -- a run with P, and then one with Q, are in turn
  pub in_turn : (old mid new : B) (P Q : (ℕ → List ℕ) → Type 0)
      → LeavesOnly means old mid P → LeavesOnly means mid new Q → LeavesInTurn means old new P Q
  in_turn old mid new P Q first second = record {
    turn = means.moment mid;
    from = first.later;
    to = second.later;
    until = λ t image from to left. first.each t image from to (second.past t image to left);
    since = λ t image from to left. second.each t image (omega arith) to left;
  }

  -- a run with P alone: the turn is still to come
  pub not_yet : (old new : B) (P Q : (ℕ → List ℕ) → Type 0) → LeavesOnly means old new P → LeavesInTurn means old new P Q
  not_yet old new P Q run = record {
    turn = means.moment new;
    from = run.later;
    to = omega arith;
    until = run.each;
    since = λ t image from to left. absurd (omega arith);
  }

  -- from the end of a run on
  pub from_now : (new : B) (P : (ℕ → List ℕ) → Type 0)
      → ((image : ℕ → List ℕ) → means.images new (means.moment new) image → P image) → LeavesFrom means (means.moment new) new P
  from_now new P here = record {
    reached = omega arith;
    each = λ t image from to left.
        let now : t ≡ means.moment new = omega arith in
        here image (subst (λ (u : ℕ). means.images new u image) now left);
  }

  -- from some moment on, and one run further
  pub from_on : (start : ℕ) (mid new : B) (P Q : (ℕ → List ℕ) → Type 0)
      → LeavesFrom means start mid P → LeavesOnly means mid new Q
      → ((image : ℕ → List ℕ) → Q image → P image) → LeavesFrom means start new P
  from_on start mid new P Q first second gives = record {
    reached = omega (arith, first.reached, second.later);
    each = λ t image from to left. ⊎_elim
        (λ after. gives image (second.each t image (omega arith) to left))
        (λ before. first.each t image from before (second.past t image before left))
        (cases_lt (means.moment mid) t);
  }
