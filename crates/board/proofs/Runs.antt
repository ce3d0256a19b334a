-- How runs of sends go on: what had been sent by each moment of two runs, one after the other.
use Rattle.std.proofs.Common.{◌≡◌, ℕ, ◌≤◌, List, [], ◌++◌, inl, inr, ⊎_elim, refl, sym, ◌∙◌, ap, subst, arith, append_assoc}
use Rattle.std.specs.Prelude.{IsTrue}
use Rattle.std.proofs.lemmas.Bool.{cases_lt}
use Rattle.std.proofs.lemmas.List.{append-nil}
use Rattle.board.specs.Counts.{Rose}
use Rattle.board.specs.Device.{Device}
use Rattle.board.specs.Meaning.{BoardMeaning}
use Rattle.board.specs.Moments.{GainsFront, IsPrefixOf, SendsNothing, SendsOnly}

module _ {B : Type 0} (means : BoardMeaning B) where
  -- before the first call
  pub started : (old : B) (P : List ℕ → Type 0) → P (means.sent old (means.moment old)) → SendsOnly means old old P
  started old P here = record {
    later = omega arith;
    each = λ t from to.
        let now : means.moment old ≡ t = omega arith in
        subst (λ (u : ℕ). P (means.sent old u)) now here;
    past = λ t le. refl;
  }

  -- a run with P, and then one with Q, where Q gives P
  pub goes_on : (old mid new : B) (P Q : List ℕ → Type 0)
      → SendsOnly means old mid P → SendsOnly means mid new Q
      → ((octets : List ℕ) → Q octets → P octets) → SendsOnly means old new P
  goes_on old mid new P Q first second gives = record {
    later = omega (arith, first.later, second.later);
    each = λ t from to. ⊎_elim
        (λ after. gives (means.sent new t) (second.each t (omega arith) to))
        (λ before. subst P (sym (second.past t before)) (first.each t from before))
        (cases_lt (means.moment mid) t);
    past = λ t le. second.past t (omega (arith, le, first.later)) ∙ first.past t le;
  }

  -- a run with Q, where Q gives P
  pub weaker : (old new : B) (P Q : List ℕ → Type 0) → SendsOnly means old new Q
      → ((octets : List ℕ) → Q octets → P octets) → SendsOnly means old new P
  weaker old new P Q run gives = record {
    later = run.later;
    each = λ t from to. gives (means.sent new t) (run.each t from to);
    past = run.past;
  }

  -- a run of no calls sends nothing
  pub sends_nothing_yet : (old : B) → SendsNothing means old old
  sends_nothing_yet old = started old (λ octets. octets ≡ means.sent old (means.moment old)) refl

  -- two runs that send nothing
  pub sends_nothing_on : (old mid new : B) → SendsNothing means old mid → SendsNothing means mid new → SendsNothing means old new
  sends_nothing_on old mid new first second =
      goes_on old mid new (λ octets. octets ≡ means.sent old (means.moment old)) (λ octets. octets ≡ means.sent mid (means.moment mid)) first second
      (λ octets same. same ∙ first.each (means.moment mid) first.later (omega arith))

-- a count that rose in a later call rose
pub rose_since : (old mid new : ℕ) → old ≤ mid → Rose mid new → Rose old new
rose_since old mid new le (inl more) = inl (omega arith)
rose_since old mid new le (inr full) = inr full

-- a count that rose in an earlier call rose
pub rose_before : (old mid new : ℕ) → old ≤ mid → Rose old mid → mid ≤ new → Rose old new
rose_before old mid new from (inl more) to = inl (omega arith)
rose_before old mid new from (inr full) to = ⊎_elim
    (λ more. inl (omega arith))
    (λ most. inr (omega arith))
    (cases_lt mid new)

-- what one board of a run tells, the next tells too
pub links_too : {old new : Device} → new ≡ old → IsTrue old.tells_link → IsTrue new.tells_link
links_too same told = ap (λ (d : Device). d.tells_link) same ∙ told

-- the front of a list
pub prefix_front : (front rest : List ℕ) → IsPrefixOf front (front ++ rest)
prefix_front front rest = (rest, refl)

pub prefix_trans : (front middle whole : List ℕ)
    → IsPrefixOf front middle → IsPrefixOf middle whole → IsPrefixOf front whole
prefix_trans front middle whole first second =
    let joined : (front ++ first.0) ++ second.0 ≡ whole = ap (λ (xs : List ℕ). xs ++ second.0) first.1 ∙ second.1 in
    (first.0 ++ second.0, sym (append_assoc front first.0 second.0) ∙ joined)

-- the same behind what stands before both
pub prefix_append : (done front whole : List ℕ)
    → IsPrefixOf front whole → IsPrefixOf (done ++ front) (done ++ whole)
prefix_append done front whole prefix =
    (prefix.0, append_assoc done front prefix.0 ∙ ap (λ (xs : List ℕ). done ++ xs) prefix.1)

-- nothing has been sent yet
pub gains_none : (before whole : List ℕ) → GainsFront before whole before
gains_none before whole = record { front = []; prefix = (whole, refl); gained = sym (append-nil before) }

-- what is done was sent, and a front of the next line
pub gains_more : (before done line rest whole octets : List ℕ)
    → GainsFront (before ++ done) line octets → (done ++ line) ++ rest ≡ whole → GainsFront before whole octets
gains_more before done line rest whole octets gains is = record {
  front = done ++ gains.front;
  prefix = prefix_trans (done ++ gains.front) (done ++ line) whole
      (prefix_append done gains.front line gains.prefix) (rest, is);
  gained = gains.gained ∙ append_assoc before done gains.front;
}
