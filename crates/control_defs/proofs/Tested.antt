-- What the test of a list of patterns tells.
use Rattle.std.proofs.Common.{◌≡◌, ℕ, suc, ◌+◌, ◌≤◌, ◌==◌, Bool, true, false, not, ◌&&◌, nat_le, List, [], ◌∷◌, ◌++◌, length, refl, sym, ◌∙◌, arith, length-append}
use Rattle.std.specs.Prelude.{All}
use Rattle.std.specs.List.{AllPairs, list_all}
use Rattle.std.specs.declared.cmp.Ordering.TheVariants.{Less}
use Rattle.std.proofs.lemmas.Bool.{and_from, and_parts, le-leb, leb-true, not-true}
use Rattle.std.proofs.lemmas.Bool.Decides.{nat_tests}
use Rattle.std.proofs.lemmas.List.Elements.{All-append, All-cons}
use Rattle.std.proofs.lemmas.List.Folds.{list_all-append}
use Rattle.std.proofs.lemmas.List.Kept.{AllPairs-cons}
use Rattle.std.proofs.lemmas.List.Sums.{AllPass-from_list_all, list_all-from_AllPass}
use Rattle.control_defs.specs.declared.patterns.Pattern.{Pattern}
use Rattle.control_defs.specs.Lists.{AreApart, IsPatternList, are_in_order, is_before, is_pattern_list, may_precede, pattern_cmp}
use Rattle.control_defs.specs.Patterns.{IsPattern, pattern_covers}
use Rattle.control_defs.proofs.Places.{less_from}

-- one pattern in front of another

precedes-from : (p q : Pattern) → pattern_cmp p q ≡ Less → AreApart p q → may_precede p q ≡ true
precedes-from p q less apart = rw (less, apart.0, apart.1) refl

precedes-parts : (p q : Pattern) → may_precede p q ≡ true → (pattern_cmp p q ≡ Less) × AreApart p q
precedes-parts p q h =
    let both = and_parts (is_before p q) (not (pattern_covers p q) && not (pattern_covers q p)) h in
    let apart = and_parts (not (pattern_covers p q)) (not (pattern_covers q p)) both.1 in
    (less_from (pattern_cmp p q) both.0, (not-true (pattern_covers p q) apart.0, not-true (pattern_covers q p) apart.1))

-- each in front of those behind it

abbrev IsRising : List Pattern → Type 0
IsRising xs = AllPairs (λ p q. pattern_cmp p q ≡ Less) xs

in_order-from : (xs : List Pattern) → IsRising xs → AllPairs AreApart xs → are_in_order xs ≡ true
in_order-from [] rising apart = refl
in_order-from (p ∷ xs) rising apart =
    let here = list_all-from_AllPass (may_precede p) xs
    (λ k d lt. precedes-from p _ (rising 0 (suc k) d (omega arith) (omega arith)) (apart 0 (suc k) d (omega arith) (omega arith))) in
    let rest = in_order-from xs (λ i j d lt end. rising (suc i) (suc j) d (omega arith) (omega arith))
    (λ i j d lt end. apart (suc i) (suc j) d (omega arith) (omega arith)) in
    and_from (list_all (may_precede p) xs) (are_in_order xs) here rest

in_order-parts : (xs : List Pattern) → are_in_order xs ≡ true → IsRising xs × AllPairs AreApart xs
in_order-parts [] h = ((λ i j d lt end. absurd (omega arith)), (λ i j d lt end. absurd (omega arith)))
in_order-parts (p ∷ xs) h =
    let both = and_parts (list_all (may_precede p) xs) (are_in_order xs) h in
    let here = AllPass-from_list_all (may_precede p) xs both.0 in
    let rest = in_order-parts xs both.1 in (
      AllPairs-cons (λ p q. pattern_cmp p q ≡ Less) p xs (λ k d lt. (precedes-parts p _ (here k d lt)).0) rest.0,
      AllPairs-cons AreApart p xs (λ k d lt. (precedes-parts p _ (here k d lt)).1) rest.1,
    )

pub tested-from : (xs : List Pattern) → IsPatternList xs → is_pattern_list xs ≡ true
tested-from xs h =
    and_from (nat_le (length xs) 64) (are_in_order xs) (le-leb (length xs) 64 h.fits) (in_order-from xs h.rising h.apart)

pub lawful-from_test : (xs : List Pattern) → All IsPattern xs → is_pattern_list xs ≡ true → IsPatternList xs
lawful-from_test xs ranges h =
    let both = and_parts (nat_le (length xs) 64) (are_in_order xs) h in
    let order = in_order-parts xs both.1 in record {
      rising = order.0;
      apart = order.1;
      fits = leb-true (length xs) 64 both.0;
      ranges = ranges;
    }

-- a list with one more behind it

regrouped : (a b c d : Bool) → ((a && (b && true)) && (c && d)) ≡ ((a && c) && (b && d))
regrouped false b c d = refl
regrouped true false false d = refl
regrouped true false true d = refl
regrouped true true c d = refl

in_order-append : (xs : List Pattern) (q : Pattern) → are_in_order (xs ++ q ∷ []) ≡ (are_in_order xs && list_all (λ p. may_precede p q) xs)
in_order-append [] q = refl
in_order-append (p ∷ xs) q =
    rw (list_all-append (may_precede p) xs (q ∷ []), in_order-append xs q)
    (regrouped (list_all (may_precede p) xs) (may_precede p q) (are_in_order xs) (list_all (λ p. may_precede p q) xs))

room_by : (n : ℕ) → n ≤ 64 → nat_le (n + 1) 64 ≡ not (n == 64)
room_by n few = grind (arith, nat_tests)

-- A lawful list with one more is lawful where it is not full, and each may stand in front of the new
-- one.
pub tested-append : (xs : List Pattern) (q : Pattern) (full each : Bool) → IsPatternList xs → full ≡ (length xs == 64)
    → each ≡ list_all (λ p. may_precede p q) xs → is_pattern_list (xs ++ q ∷ []) ≡ (not full && each)
tested-append xs q full each h is_full is_each =
    rw (is_full, is_each, length-append xs (q ∷ []), in_order-append xs q, in_order-from xs h.rising h.apart, room_by (length xs) h.fits) refl

pub IsPatternList-append : (xs : List Pattern) (q : Pattern) → IsPatternList xs → IsPattern q → is_pattern_list (xs ++ q ∷ []) ≡ true → IsPatternList (xs ++ q ∷ [])
IsPatternList-append xs q h range tested =
    lawful-from_test (xs ++ q ∷ []) (All-append IsPattern xs (q ∷ []) h.ranges (All-cons IsPattern q [] range (λ k d lt. absurd (omega arith)))) tested

in_order-front : (xs ys : List Pattern) → are_in_order (xs ++ ys) ≡ true → are_in_order xs ≡ true
in_order-front [] ys h = refl
in_order-front (p ∷ xs) ys h =
    let both = and_parts (list_all (may_precede p) (xs ++ ys)) (are_in_order (xs ++ ys)) h in
    let each = and_parts (list_all (may_precede p) xs) (list_all (may_precede p) ys) (sym (list_all-append (may_precede p) xs ys) ∙ both.0) in
    and_from (list_all (may_precede p) xs) (are_in_order xs) each.0 (in_order-front xs ys both.1)

-- the front of a list that may be kept may be kept
pub tested-front : (xs ys : List Pattern) → is_pattern_list (xs ++ ys) ≡ true → is_pattern_list xs ≡ true
tested-front xs ys h =
    let both = and_parts (nat_le (length (xs ++ ys)) 64) (are_in_order (xs ++ ys)) h in
    let few = leb-true (length (xs ++ ys)) 64 both.0 in
    and_from (nat_le (length xs) 64) (are_in_order xs) (le-leb (length xs) 64 (omega (arith, length-append xs ys))) (in_order-front xs ys both.1)
