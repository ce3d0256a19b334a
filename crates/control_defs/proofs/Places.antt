-- The place of a pattern in a list, and the list with it or without it.
use Rattle.std.proofs.Common.{◌≡◌, ℕ, ◌+◌, ◌<◌, inl, inr, Bool, true, false, not, List, ◌∷◌, ◌++◌, length, get_or, filter, refl, sym, ap, ◌∙◌, subst, arith}
use Rattle.std.specs.Prelude.{Some, slice_get, All}
use Rattle.std.specs.List.{AllWithin, insert, position_or_len, remove}
use Rattle.std.specs.Ordering.{is_eq, is_lt, ordering_reverse}
use Rattle.std.specs.declared.cmp.Ordering.{Ordering}
use Rattle.std.specs.declared.cmp.Ordering.TheVariants.{Less, Equal, Greater}
use Rattle.std.proofs.lemmas.Bool.{cases_eq, cond-false, cond-true, not-false, not-true}
use Rattle.std.proofs.lemmas.Cmp.{tied_itself}
use Rattle.std.proofs.lemmas.List.{length-append}
use Rattle.std.proofs.lemmas.List.Elements.{All-filter, filter_passes}
use Rattle.std.proofs.lemmas.List.Sums.{fails_before_first, passes_at_first, prefix_len-le-length}
use Rattle.std.proofs.lemmas.Option.{get_or_from_slice_get}
use Rattle.control_defs.specs.declared.patterns.Pattern.{Pattern}
use Rattle.control_defs.specs.Lists.{AreApart, IsPatternList, IsPlace, is_before, is_covered, pattern_cmp, placed, with_pattern, without_covered, without_pattern}
use Rattle.control_defs.specs.Patterns.{pattern_covers}
use Rattle.control_defs.proofs.Covering.{covers_itself}
use Rattle.control_defs.proofs.Order.{greater_back, less_back, pattern_cmp_total, same_from_tied}
use Rattle.control_defs.proofs.Parts.{All-from_none, filter_back, filter_front, filter_remove, length_parts}

before_or_not : (o : Ordering) → (o ≡ Equal → ⊥) → is_lt o ≡ not (is_lt (ordering_reverse o))
before_or_not Less n = refl
before_or_not Equal n = absurd (n refl)
before_or_not Greater n = refl

not_tied : (o : Ordering) → is_lt o ≡ false → (o ≡ Equal → ⊥) → o ≡ Greater
not_tied Less h n = cc h
not_tied Equal h n = absurd (n refl)
not_tied Greater h n = refl

pub less_from : (o : Ordering) → is_lt o ≡ true → o ≡ Less
less_from Less h = refl
less_from Equal h = cc h
less_from Greater h = cc h

-- patterns of which neither covers the other are not tied
apart_untied : (p x : Pattern) → AreApart p x → pattern_cmp x p ≡ Equal → ⊥
apart_untied p x apart tied =
    let whole = covers_itself p in
    let e = same_from_tied x p tied in
    let none : pattern_covers p p ≡ false = subst (λ y. pattern_covers p y ≡ false) e apart.0 in cc

pub untied_all : (p : Pattern) (xs : List Pattern) → All (AreApart p) xs
    → All (λ x. is_before x p ≡ not (is_before p x)) xs
untied_all p xs apart k d lt =
    let x = get_or xs k d in
    let ways = before_or_not (pattern_cmp x p) (apart_untied p x (apart k d lt)) in
    subst (λ o. is_before x p ≡ not (is_lt o)) (sym (pattern_cmp_total.antisymm p x)) ways

-- what a pattern leaves of a list that does not cover it is apart from it
pub beside_apart : (p : Pattern) (xs : List Pattern) → is_covered p xs ≡ false
    → All (AreApart p) (without_covered p xs)
beside_apart p xs none k d lt =
    let stays : Pattern → Bool = λ other. not (pattern_covers p other) in
    let passed = filter_passes stays xs k d lt in
    let uncovered = All-from_none (λ other. pattern_covers other p) xs none in (
      not-true (pattern_covers p (get_or (without_covered p xs) k d)) passed,
      All-filter stays (λ x. pattern_covers x p ≡ false) xs uncovered k d lt,
    )

-- a pattern and all that is apart from it
pub length-placed : (p : Pattern) (xs : List Pattern) → All (AreApart p) xs → length (placed p xs) ≡ length xs + 1
length-placed p xs apart =
    let before : Pattern → Bool = λ other. is_before other p in
    let behind : Pattern → Bool = λ other. is_before p other in
    let parts = length_parts before behind xs (untied_all p xs apart) in
    omega (arith, length-append (filter before xs) (p ∷ filter behind xs))

pub with_covered : (p : Pattern) (xs : List Pattern) → is_covered p xs ≡ true → with_pattern p xs ≡ xs
with_covered p xs h = cond-true _ _ _ h

pub with_uncovered : (p : Pattern) (xs : List Pattern) → is_covered p xs ≡ false
    → with_pattern p xs ≡ placed p (without_covered p xs)
with_uncovered p xs h = cond-false _ _ _ h

pub length-with_uncovered : (p : Pattern) (xs : List Pattern) → is_covered p xs ≡ false
    → length (with_pattern p xs) ≡ length (without_covered p xs) + 1
length-with_uncovered p xs h =
    ap length (with_uncovered p xs h) ∙ length-placed p (without_covered p xs) (beside_apart p xs h)

-- at its place a pattern stands between those before it and those that it is before
pub insert_is : (xs : List Pattern) (p : Pattern) (i : ℕ) → IsPlace xs p i → insert xs i p ≡ placed p xs
insert_is xs p i place =
    let before : Pattern → Bool = λ other. is_before other p in
    let behind : Pattern → Bool = λ other. is_before p other in
    let low : AllWithin (λ x. before x ≡ true) xs 0 i = λ k d from to. ap is_lt (place.below k d from to) in
    let low_too : AllWithin (λ x. behind x ≡ false) xs 0 i =
    λ k d from to. ap is_lt (less_back (get_or xs k d) p (place.below k d from to)) in
    let high : AllWithin (λ x. before x ≡ false) xs i (length xs) = λ k d from to. ap is_lt (place.above k d from to) in
    let high_too : AllWithin (λ x. behind x ≡ true) xs i (length xs) =
    λ k d from to. ap is_lt (greater_back (get_or xs k d) p (place.above k d from to)) in
    let front = filter_front before xs i place.within low high in
    let back = filter_back behind xs i place.within low_too high_too in
    sym (λ j. front j ++ p ∷ back j)

-- the list without a pattern that stands at a place
pub remove_is : (xs : List Pattern) (p : Pattern) (i : ℕ) → IsPatternList xs → i < length xs
    → slice_get xs i ≡ Some p → remove xs i ≡ without_pattern p xs
remove_is xs p i h within found =
    let other_than : Pattern → Bool = λ other. not (is_eq (pattern_cmp other p)) in
    let at : (d : Pattern) → get_or xs i d ≡ p = λ d. get_or_from_slice_get xs i p d found in
    let itself : other_than (get_or xs i p) ≡ false = rw (at p, tied_itself pattern_cmp_total p) refl in
    let low : AllWithin (λ x. other_than x ≡ true) xs 0 i = λ k d from to.
    let less = subst (λ y. pattern_cmp (get_or xs k d) y ≡ Less) (at d) (h.rising k i d to within) in
    ap (λ o. not (is_eq o)) less in
    let high : AllWithin (λ x. other_than x ≡ true) xs (i + 1) (length xs) = λ k d from to.
    let less = subst (λ y. pattern_cmp y (get_or xs k d) ≡ Less) (at d) (h.rising i k d (omega arith) to) in
    ap (λ o. not (is_eq o)) (less_back p (get_or xs k d) less) in
    sym (filter_remove other_than xs i p within itself low high)

-- a pattern that is apart from a list has a place in it
pub place_of : (xs : List Pattern) (p : Pattern) → IsPatternList xs → All (AreApart p) xs
    → (i : ℕ) × IsPlace xs p i
place_of xs p h apart =
    let after : Pattern → Bool = λ x. not (is_before x p) in
    let i = position_or_len after xs in
    let below : AllWithin (λ x. pattern_cmp x p ≡ Less) xs 0 i = λ k d from to.
    let passed = not-false (is_before (get_or xs k d) p) (fails_before_first after xs k d to) in
    less_from (pattern_cmp (get_or xs k d) p) passed in
    let first : (d : Pattern) → i < length xs → pattern_cmp (get_or xs i d) p ≡ Greater = λ d inside.
    let failed = not-true (is_before (get_or xs i d) p) (passes_at_first after xs d inside) in
    not_tied (pattern_cmp (get_or xs i d) p) failed (apart_untied p (get_or xs i d) (apart i d inside)) in
    let above : AllWithin (λ x. pattern_cmp x p ≡ Greater) xs i (length xs) = λ k d from to.
    let here = first d (omega arith) in
    elim (cases_eq k i) [
      | inl e ↦ subst (λ j. pattern_cmp (get_or xs j d) p ≡ Greater) (sym e) here
      | inr n ↦
          let up = h.rising i k d (omega arith) to in
          let less = pattern_cmp_total.trans p (get_or xs i d) (get_or xs k d) (greater_back (get_or xs i d) p here) up in
          less_back p (get_or xs k d) less
    ] in
    (i, record { within = prefix_len-le-length (λ x. not (after x)) xs; below = below; above = above })
