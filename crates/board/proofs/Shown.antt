-- How runs of calls go on: what a stop leaves at each moment, together with what had been sent by then.
use Rattle.std.proofs.Common.{◌≡◌, ℕ, ◌≤◌, List, ⊎_elim, sym, ◌∙◌, refl, subst, arith}
use Rattle.std.proofs.lemmas.Bool.{cases_lt}
use Rattle.board.specs.Meaning.{BoardMeaning}
use Rattle.board.specs.Moments.{LeavesOnly, SendsOnly, Shows}

module _ {B : Type 0} (means : BoardMeaning B) where
  -- before the first call
  pub shows_first : (old : B) (P : List ℕ → (ℕ → List ℕ) → Type 0)
      → ((image : ℕ → List ℕ) → means.images old (means.moment old) image → P (means.sent old (means.moment old)) image)
      → Shows means old old P
  shows_first old P here = record {
    later = omega arith;
    each = λ t image from to left.
        let now : t ≡ means.moment old = omega arith in
        subst (λ (u : ℕ). P (means.sent old u) image) (sym now) (here image (subst (λ (u : ℕ). means.images old u image) now left));
    past = λ t image le left. left;
    kept = λ t image le left. left;
    past_sent = λ t le. refl;
  }

  -- what is known of the images of a run, and what is known of the octets that it sends
  pub shows_both : (old new : B) (P : (ℕ → List ℕ) → Type 0) (Q : List ℕ → Type 0) (R : List ℕ → (ℕ → List ℕ) → Type 0)
      → LeavesOnly means old new P → SendsOnly means old new Q
      → ((octets : List ℕ) (image : ℕ → List ℕ) → Q octets → P image → R octets image) → Shows means old new R
  shows_both old new P Q R leaves sends gives = record {
    later = leaves.later;
    each = λ t image from to left. gives (means.sent new t) image (sends.each t from to) (leaves.each t image from to left);
    past = leaves.past;
    kept = leaves.kept;
    past_sent = sends.past;
  }

  -- a run with P, and then one with Q, where Q gives P
  pub shows_on : (old mid new : B) (P Q : List ℕ → (ℕ → List ℕ) → Type 0) → Shows means old mid P → Shows means mid new Q
      → ((octets : List ℕ) (image : ℕ → List ℕ) → Q octets image → P octets image) → Shows means old new P
  shows_on old mid new P Q first second gives = record {
    later = omega (arith, first.later, second.later);
    each = λ t image from to left. ⊎_elim
        (λ after. gives (means.sent new t) image (second.each t image (omega arith) to left))
        (λ before. subst (λ (octets : List ℕ). P octets image) (sym (second.past_sent t before))
        (first.each t image from before (second.past t image before left)))
        (cases_lt (means.moment mid) t);
    past = λ t image le left. first.past t image le (second.past t image (omega (arith, le, first.later)) left);
    kept = λ t image le left. second.kept t image (omega (arith, le, first.later)) (first.kept t image le left);
    past_sent = λ t le. second.past_sent t (omega (arith, le, first.later)) ∙ first.past_sent t le;
  }

  -- a run with Q, where Q gives P
  pub shows_weaker : (old new : B) (P Q : List ℕ → (ℕ → List ℕ) → Type 0) → Shows means old new Q
      → ((octets : List ℕ) (image : ℕ → List ℕ) → Q octets image → P octets image) → Shows means old new P
  shows_weaker old new P Q run gives = record {
    later = run.later;
    each = λ t image from to left. gives (means.sent new t) image (run.each t image from to left);
    past = run.past;
    kept = run.kept;
    past_sent = run.past_sent;
  }

  -- its images alone
  pub images_alone : (old new : B) (P : List ℕ → (ℕ → List ℕ) → Type 0) (Q : (ℕ → List ℕ) → Type 0) → Shows means old new P
      → ((octets : List ℕ) (image : ℕ → List ℕ) → P octets image → Q image) → LeavesOnly means old new Q
  images_alone old new P Q run gives = record {
    later = run.later;
    each = λ t image from to left. gives (means.sent new t) image (run.each t image from to left);
    past = run.past;
    kept = run.kept;
  }
