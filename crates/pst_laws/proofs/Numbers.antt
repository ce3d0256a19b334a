-- Rising numbers, and numbers that were sent or left.
use Rattle.std.proofs.Common.{◌≡◌, ◌≤◌, ◌<◌, ℕ, ◌+◌, List, [], ◌∷◌, ◌++◌, inl, inr, ⊎_elim, arith, subst}
use Rattle.std.proofs.lemmas.Bool.{cases_lt}
use Rattle.std.proofs.lemmas.List.Elements.{Contains-append_left, Contains-push}
use Rattle.std.proofs.lemmas.List.Quantifiers.{all_pairs_push}
use Rattle.std.specs.Prelude.{All, Contains}
use Rattle.pst_laws.specs.Kept.{ArePassed, AreRising}

pub none_rising : AreRising []
none_rising i j d lt within = absurd (omega (arith, within))

pub rising_push : (sent : List ℕ) (number : ℕ) → AreRising sent → All (λ n. n < number) sent → AreRising (sent ++ number ∷ [])
rising_push sent number rising below = all_pairs_push (λ a b. a < b) sent number rising (λ k d lt. below k d lt)

-- none, where there are none
pub none_passed : (gone first end : ℕ) (sent : List ℕ) → end ≤ first → ArePassed gone first end sent
none_passed gone first end sent le number from = absurd (omega (arith, le, from.0, from.1))

-- more that left
pub passed_more : (gone more first end later : ℕ) (sent : List ℕ) → gone ≤ more → ((number : ℕ) → end ≤ number → number < later → number < more) → ArePassed gone first end sent → ArePassed more first later sent
passed_more gone more first end later sent le left passed number from =
    ⊎_elim
    (λ below. ⊎_elim (λ was. inl was) (λ went. inr (omega (arith, le, went))) (passed number (from.0, below)))
    (λ above. inr (left number above from.1))
    (cases_lt number end)

-- one more that was sent
pub passed_one : (gone first end later : ℕ) (sent : List ℕ) → later ≤ end + 1 → ArePassed gone first end sent → ArePassed gone first later (sent ++ end ∷ [])
passed_one gone first end later sent le passed number from =
    ⊎_elim
    (λ below. ⊎_elim (λ was. inl (Contains-append_left sent (end ∷ []) number was)) (λ went. inr went) (passed number (from.0, below)))
    (λ above. let same : end ≡ number = omega (arith, le, above, from.1) in inl (subst (λ (n : ℕ). Contains (sent ++ end ∷ []) n) same (Contains-push sent end)))
    (cases_lt number end)
