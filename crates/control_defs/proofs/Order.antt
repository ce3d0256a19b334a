-- The order of patterns, and where a search in a rising list ends.
use Rattle.std.proofs.Common.{◌≡◌, ℕ, rules, ◌+◌, inl, inr, List, length, get_or, refl, sym, ap, ◌∙◌, subst, arith}
use Rattle.std.specs.Prelude.{Result, Ok, Err, Some, slice_get, IsOk, IfOk, IfErr, AllPairs, ◌↔◌, Contains}
use Rattle.std.specs.Cmp.{IsTotalOrder}
use Rattle.std.specs.List.{HoldsAt}
use Rattle.std.specs.List.Sorted.{IsBinarySearchResult, IsSearchInRange, IsNonDecreasingBy}
use Rattle.std.specs.Ordering.{is_lt, ordering_index, ordering_reverse}
use Rattle.std.specs.declared.cmp.Ordering.TheVariants.{Less, Equal, Greater}
use Rattle.std.proofs.Math.Path.{fun_ext}
use Rattle.std.proofs.lemmas.Option.{get_or_from_slice_get, slice_get-get_or}
use Rattle.std.proofs.lemmas.Bool.{cases_lt}
use Rattle.std.proofs.lemmas.Cmp.{then_total, on_total, nat_cmp_total, tied_itself}
use Rattle.std.proofs.lemmas.Grind.{common_steps}
use Rattle.std.proofs.lemmas.List.Sorted.{searchable_from_sorted}
use Rattle.control_defs.specs.contracts.patterns.PatternOrd.TheImpl.{ghosts}
use Rattle.control_defs.specs.declared.patterns.Pattern.{Pattern}
use Rattle.control_defs.specs.declared.patterns.Pattern.TheVariants.{Every, App, Service, Kind}
use Rattle.control_defs.specs.Lists.{IsPlace, pattern_form, pattern_apid, pattern_service, pattern_subtype, pattern_cmp}

pub pattern_cmp_total : IsTotalOrder pattern_cmp
pattern_cmp_total =
    let last = then_total (on_total pattern_service nat_cmp_total) (on_total pattern_subtype nat_cmp_total) in
    then_total (on_total pattern_form nat_cmp_total) (then_total (on_total pattern_apid nat_cmp_total) last)

-- patterns that the order does not tell apart are the same
pub same_from_tied : (p q : Pattern) → pattern_cmp p q ≡ Equal → p ≡ q
same_from_tied p q h = grind (arith, common_steps)

pub less_back : (p q : Pattern) → pattern_cmp p q ≡ Less → pattern_cmp q p ≡ Greater
less_back p q h = pattern_cmp_total.antisymm q p ∙ ap ordering_reverse h

pub greater_back : (p q : Pattern) → pattern_cmp p q ≡ Greater → pattern_cmp q p ≡ Less
greater_back p q h = pattern_cmp_total.antisymm q p ∙ ap ordering_reverse h

-- the derived order is the order of patterns
cmp_is : (p q : Pattern) → ghosts.cmp p q ≡ pattern_cmp p q
cmp_is Every Every = refl
cmp_is Every (App b) = refl
cmp_is Every (Service b t) = refl
cmp_is Every (Kind b t u) = refl
cmp_is (App a) Every = refl
cmp_is (App a) (App b) = search rules
cmp_is (App a) (Service b t) = refl
cmp_is (App a) (Kind b t u) = refl
cmp_is (Service a s) Every = refl
cmp_is (Service a s) (App b) = refl
cmp_is (Service a s) (Service b t) = search rules
cmp_is (Service a s) (Kind b t u) = refl
cmp_is (Kind a s v) Every = refl
cmp_is (Kind a s v) (App b) = refl
cmp_is (Kind a s v) (Service b t) = refl
cmp_is (Kind a s v) (Kind b t u) = search rules

module _ (xs : List Pattern) (p : Pattern) (up : AllPairs (λ x y. pattern_cmp x y ≡ Less) xs) where
  searchable : IsNonDecreasingBy (λ y. ordering_index (pattern_cmp y p)) xs
  searchable =
      searchable_from_sorted pattern_cmp_total (λ x. x) xs p
      (λ k d low high.
      let next = up k (k + 1) d (omega arith) (omega arith) in
      ap is_lt (less_back (get_or xs k d) (get_or xs (k + 1) d) next))

  -- where a binary search for an absent pattern ends
  absent_place : (r : Result ℕ ℕ) → IsSearchInRange r (length xs) → IsBinarySearchResult (λ y. ghosts.cmp y p) xs r
      → IfErr r (IsPlace xs p)
  absent_place (Ok i) bound found = tt
  absent_place (Err i) bound found =
      let same = fun_ext (λ y. cmp_is y p) in
      let f : IsBinarySearchResult (λ y. pattern_cmp y p) xs (Err i) =
      subst (λ ord. IsBinarySearchResult ord xs (Err i)) same found in
      let parts = f searchable in record { within = bound; below = parts.0; above = parts.1 }

-- where it ends at one that is in the list
found_place : (xs : List Pattern) (p : Pattern) (r : Result ℕ ℕ) → IsSearchInRange r (length xs)
    → IfOk r (HoldsAt (λ y. ghosts.cmp y p ≡ Equal) xs) → IfOk r (λ i. slice_get xs i ≡ Some p)
found_place xs p (Ok i) bound tied =
    slice_get-get_or xs i p bound ∙ ap Some (same_from_tied (get_or xs i p) p (sym (cmp_is (get_or xs i p) p) ∙ tied p))
found_place xs p (Err i) bound tied = tt

-- a pattern with a place is not in the list
no_place_of_one : (xs : List Pattern) (i : ℕ) (p : Pattern) → IsPlace xs p i → Contains xs p → ⊥
no_place_of_one xs i p place there =
    let k = there.0 in
    let same : pattern_cmp (get_or xs k p) p ≡ Equal = rw (there.2) (tied_itself pattern_cmp_total p) in
    elim (cases_lt k i) [
      | inl b ↦ cc (same, place.below k p (omega arith) b)
      | inr a ↦ cc (same, place.above k p a there.1)
    ]

-- a search finds the patterns that stand
found_stands : (r : Result ℕ ℕ) (xs : List Pattern) (p : Pattern) → IsSearchInRange r (length xs)
    → IfOk r (λ i. slice_get xs i ≡ Some p) → IfErr r (IsPlace xs p) → IsOk r ↔ Contains xs p
found_stands (Ok i) xs p bound found absent = (λ _. (i, bound, get_or_from_slice_get xs i p p found), λ _. refl)
found_stands (Err i) xs p bound found absent = (λ h. cc h, λ there. absurd (no_place_of_one xs i p absent there))

-- a search in a rising list finds a pattern, or the place where it would stand
pub search_ends : (xs ys : List Pattern) (p : Pattern) (r : Result ℕ ℕ) → ys ≡ xs
    → AllPairs (λ x y. pattern_cmp x y ≡ Less) xs → IsSearchInRange r (length ys)
    → IfOk r (HoldsAt (λ y. ghosts.cmp y p ≡ Equal) ys) → IsBinarySearchResult (λ y. ghosts.cmp y p) ys r
    → IfOk r (λ i. slice_get xs i ≡ Some p) × IfErr r (IsPlace xs p) × (IsOk r ↔ Contains xs p)
search_ends xs ys p r same up bound tied found =
    let inside = subst (λ l. IsSearchInRange r (length l)) same bound in
    let tied_there = subst (λ l. IfOk r (HoldsAt (λ y. ghosts.cmp y p ≡ Equal) l)) same tied in
    let found_there = subst (λ l. IsBinarySearchResult (λ y. ghosts.cmp y p) l r) same found in
    let at = found_place xs p r inside tied_there in
    let place = absent_place xs p up r inside found_there in
    (at, place, found_stands r xs p inside at place)
