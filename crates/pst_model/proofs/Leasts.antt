-- The least number that passes a test.
use Rattle.std.proofs.Common.{◌≡◌, ◌≤◌, ◌<◌, ℕ, zero, suc, Bool, true, false, Some, None, ◌∙◌, ap, arith, refl, subst}
use Rattle.std.proofs.lemmas.Bool.{cond-false, cond-true, cond_both, le-ltb, lt-ltb, ltb-false, ltb-true}
use Rattle.std.specs.Prelude.{if◌then◌else◌, nat_lt}
use Rattle.pst_model.specs.Least.{IsLeast, first_below, least}

-- a number up to the bound that passes, and before which none does, is the least
pub least-is : (test : ℕ → Bool) (bound number : ℕ) → number ≤ bound → test number ≡ true → ((n : ℕ) → n < number → test n ≡ false) → least test bound ≡ number
least-is test zero number le here before = omega arith
least-is test (suc bound) zero le here before = cond-true (test 0) 0 (suc (least (λ n. test (suc n)) bound)) here
least-is test (suc bound) (suc number) le here before =
    cond-false (test 0) 0 (suc (least (λ n. test (suc n)) bound)) (before 0 (omega arith))
    ∙ ap suc (least-is (λ n. test (suc n)) bound number (omega arith) here (λ n lt. before (suc n) (omega arith)))

-- the least number of a test that fails at 0
one_more : (test : ℕ → Bool) (number : ℕ) → test 0 ≡ false → IsLeast (λ n. test (suc n)) number → IsLeast test (suc number)
one_more test number fails rest = record { passes = rest.passes; first = before }
  where
    before : (n : ℕ) → n < suc number → test n ≡ false
    before zero lt = fails
    before (suc n) lt = rest.first n (omega arith)

-- where the bound passes, so does the least number below it, and no smaller one
pub least-least : (test : ℕ → Bool) (bound : ℕ) → test bound ≡ true → IsLeast test (least test bound)
least-least test zero here = record { passes = here; first = λ n lt. absurd (omega arith) }
least-least test (suc bound) here =
    cond_both (test 0) 0 (suc (least (λ n. test (suc n)) bound)) (IsLeast test)
    (λ passes. record { passes = passes; first = λ n lt. absurd (omega arith) })
    (λ fails. one_more test (least (λ n. test (suc n)) bound) fails (least-least (λ n. test (suc n)) bound here))

-- a number before the least fails, and the least passes where it is below the bound

least-before : (test : ℕ → Bool) (bound n : ℕ) → n < least test bound → test n ≡ false
least-before test zero n before = absurd (omega arith)
least-before test (suc bound) zero before =
    cond_both (test 0) 0 (suc (least (λ m. test (suc m)) bound)) (λ (m : ℕ). 0 < m → test 0 ≡ false) (λ passes lt. absurd (omega arith)) (λ fails lt. fails) before
least-before test (suc bound) (suc n) before =
    let rest = least (λ m. test (suc m)) bound in
    let later : suc n < suc rest = cond_both (test 0) 0 (suc rest) (λ (m : ℕ). suc n < m → suc n < suc rest) (λ passes lt. absurd (omega arith)) (λ fails lt. lt) before in
    least-before (λ m. test (suc m)) bound n (omega arith)

least-at : (test : ℕ → Bool) (bound : ℕ) → least test bound < bound → test (least test bound) ≡ true
least-at test zero below = absurd (omega arith)
least-at test (suc bound) below =
    cond_both (test 0) 0 (suc (least (λ m. test (suc m)) bound)) (λ (m : ℕ). m < suc bound → test m ≡ true)
    (λ passes lt. passes) (λ fails lt. least-at (λ m. test (suc m)) bound (omega arith)) below

least-none : (test : ℕ → Bool) (bound : ℕ) → ((n : ℕ) → n < bound → test n ≡ false) → least test bound ≡ bound
least-none test zero none = refl
least-none test (suc bound) none =
    cond-false (test 0) 0 (suc (least (λ m. test (suc m)) bound)) (none 0 (omega arith))
    ∙ ap suc (least-none (λ m. test (suc m)) bound (λ n lt. none (suc n) (omega arith)))

-- the first number below a bound that passes, as an answer

pub first_below-some : (test : ℕ → Bool) (bound number : ℕ) → number < bound → test number ≡ true → ((n : ℕ) → n < number → test n ≡ false) → first_below test bound ≡ Some number
first_below-some test bound number lt here before =
    let same = least-is test bound number (omega arith) here before in
    ap (λ (n : ℕ). if nat_lt n bound then Some n else None) same ∙ cond-true (nat_lt number bound) (Some number) None (lt-ltb number bound lt)

pub first_below-none : (test : ℕ → Bool) (bound : ℕ) → ((n : ℕ) → n < bound → test n ≡ false) → first_below test bound ≡ None
first_below-none test bound none =
    let same = least-none test bound none in
    ap (λ (n : ℕ). if nat_lt n bound then Some n else None) same ∙ cond-false (nat_lt bound bound) (Some bound) None (le-ltb bound bound (omega arith))

pub IsLeast-below : (test : ℕ → Bool) (bound number : ℕ) → first_below test bound ≡ Some number → (number < bound) × IsLeast test number
IsLeast-below test bound number = by (nat_lt (least test bound) bound) refl
  where
    by : (below : Bool) → nat_lt (least test bound) bound ≡ below → (if below then Some (least test bound) else None) ≡ Some number → (number < bound) × IsLeast test number
    by true below is =
        let same : least test bound ≡ number = cc in
        let lt = ltb-true (least test bound) bound below in
        subst (λ (n : ℕ). (n < bound) × IsLeast test n) same (lt, record { passes = least-at test bound lt; first = least-before test bound })
    by false below is = absurd cc

pub none-below : (test : ℕ → Bool) (bound : ℕ) → first_below test bound ≡ None → (n : ℕ) → n < bound → test n ≡ false
none-below test bound = by (nat_lt (least test bound) bound) refl
  where
    by : (below : Bool) → nat_lt (least test bound) bound ≡ below → (if below then Some (least test bound) else None) ≡ None → (n : ℕ) → n < bound → test n ≡ false
    by true below is n lt = absurd cc
    by false below is n lt = let past = ltb-false (least test bound) bound below in least-before test bound n (omega arith)
