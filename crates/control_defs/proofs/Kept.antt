-- What edits of a list of patterns keep: its form, and the keys that it covers.
use Rattle.std.proofs.Common.{◌≡◌, ℕ, ◌<◌, ◌≤◌, inl, inr, Bool, true, false, not, ◌||◌, List, ◌∷◌, length, get_or, filter, refl, sym, ap, ◌∙◌, subst, arith}
use Rattle.std.specs.Prelude.{All}
use Rattle.std.specs.List.{AllWithin, insert}
use Rattle.std.specs.declared.cmp.Ordering.TheVariants.{Less}
use Rattle.std.proofs.lemmas.Bool.{cases_Bool, false_from_ne_true, not_from_false}
use Rattle.std.proofs.lemmas.List.Edits.{length-insert}
use Rattle.std.proofs.lemmas.List.Elements.{All-filter}
use Rattle.std.proofs.lemmas.List.Filters.{length-filter_both}
use Rattle.std.proofs.lemmas.Map.Views.{any-filter_same}
use Rattle.std.proofs.lemmas.List.Folds.{list_any-append, list_any_at, Any-from_list_any}
use Rattle.std.proofs.lemmas.List.Kept.{AllPairs-filter}
use Rattle.control_defs.specs.declared.keys.Key.{Key}
use Rattle.control_defs.specs.declared.patterns.Pattern.{Pattern}
use Rattle.control_defs.specs.Lists.{AreApart, IsPatternList, IsPlace, is_before, is_covered, pattern_cmp, with_pattern, without_covered}
use Rattle.control_defs.specs.Patterns.{IsPattern, any_covers, covers, pattern_covers}
use Rattle.control_defs.proofs.Covering.{covers_keys}
use Rattle.control_defs.proofs.Order.{greater_back}
use Rattle.control_defs.proofs.Parts.{All-insert, AllPairs-insert, any_parts, or_comm, or_left_comm}
use Rattle.control_defs.proofs.Places.{beside_apart, insert_is, length-with_uncovered, place_of, untied_all, with_covered, with_uncovered}

pub IsPatternList-filter : (test : Pattern → Bool) (xs : List Pattern) → IsPatternList xs → IsPatternList (filter test xs)
IsPatternList-filter test xs h = record {
  rising = AllPairs-filter (λ p q. pattern_cmp p q ≡ Less) test xs h.rising;
  apart = AllPairs-filter AreApart test xs h.apart;
  fits = omega (arith, h.fits, length-filter_both test (λ x. not (test x)) (λ x. refl) xs);
  ranges = All-filter test IsPattern xs h.ranges;
}

-- what stays beside a pattern is no longer than a list
pub beside_fits : (p : Pattern) (xs : List Pattern) → IsPatternList xs → length (without_covered p xs) ≤ 64
beside_fits p xs h = let kept = IsPatternList-filter (λ other. not (pattern_covers p other)) xs h in kept.fits

pub IsPatternList-insert : (xs : List Pattern) (p : Pattern) (i : ℕ) → IsPatternList xs → IsPattern p
    → length xs < 64 → All (AreApart p) xs → IsPlace xs p i → IsPatternList (insert xs i p)
IsPatternList-insert xs p i h range room apart place =
    let above : AllWithin (λ x. pattern_cmp p x ≡ Less) xs i (length xs) =
    λ k d low high. greater_back (get_or xs k d) p (place.above k d low high) in
    let apart_too : AllWithin (λ x. AreApart x p) xs 0 i =
    λ k d low high. let a = apart k d (omega (arith, place.within)) in (a.1, a.0) in
    record {
      rising = AllPairs-insert (λ x y. pattern_cmp x y ≡ Less) xs i p h.rising place.within place.below above;
      apart = AllPairs-insert AreApart xs i p h.apart place.within apart_too (λ k d low high. apart k d high);
      fits = omega (arith, length-insert xs i p place.within);
      ranges = All-insert IsPattern xs i p h.ranges range;
    }

pub IsPatternList-with : (p : Pattern) (xs : List Pattern) → IsPatternList xs → IsPattern p
    → length (with_pattern p xs) ≤ 64 → IsPatternList (with_pattern p xs)
IsPatternList-with p xs h range fits =
    elim (cases_Bool (is_covered p xs)) [
      | inl covered ↦ subst IsPatternList (sym (with_covered p xs covered)) h
      | inr uncovered ↦
          let ys = without_covered p xs in
          let left = IsPatternList-filter (λ other. not (pattern_covers p other)) xs h in
          let apart = beside_apart p xs uncovered in
          let place = place_of ys p left apart in
          let room : length ys < 64 = omega (arith, length-with_uncovered p xs uncovered) in
          subst IsPatternList (insert_is ys p place.0 place.1 ∙ sym (with_uncovered p xs uncovered))
          (IsPatternList-insert ys p place.0 left range room apart place.1)
    ]

-- the keys of a list that covers a pattern
covered_keys : (p : Pattern) (xs : List Pattern) (key : Key) → is_covered p xs ≡ true
    → any_covers xs key ≡ (any_covers xs key || covers p key)
covered_keys p xs key covered =
    elim (cases_Bool (covers p key)) [
      | inl e ↦
          let one = Any-from_list_any (λ other. pattern_covers other p) xs covered in
          let at : covers (get_or xs one.0 one.1) key ≡ true = rw (one.3) (covers_keys one.1 p key one.4 e) in
          rw (list_any_at (λ x. covers x key) xs one.0 one.1 one.2 at) refl
      | inr e ↦ rw e (sym (or_comm (any_covers xs key) false))
    ]

-- the keys of a pattern with those of what it leaves of a list
beside_keys : (p : Pattern) (xs : List Pattern) (key : Key)
    → (covers p key || any_covers (without_covered p xs) key) ≡ (any_covers xs key || covers p key)
beside_keys p xs key =
    elim (cases_Bool (covers p key)) [
      | inl e ↦ rw e (sym (or_comm (any_covers xs key) true))
      | inr e ↦
          let stays : Pattern → Bool = λ other. not (pattern_covers p other) in
          let stay : (x : Pattern) → covers x key ≡ true → stays x ≡ true = λ x h.
          let uncovered = false_from_ne_true (pattern_covers p x) (λ c. let k = covers_keys p x key c h in cc) in
          not_from_false (pattern_covers p x) uncovered in
          let same = any-filter_same (λ x. covers x key) stays true stay xs in
          rw e (same ∙ sym (or_comm (any_covers xs key) false))
    ]

-- the keys of the list with a pattern
pub any_covers-with : (p : Pattern) (xs : List Pattern) (key : Key)
    → any_covers (with_pattern p xs) key ≡ (any_covers xs key || covers p key)
any_covers-with p xs key =
    elim (cases_Bool (is_covered p xs)) [
      | inl covered ↦ ap (λ l. any_covers l key) (with_covered p xs covered) ∙ covered_keys p xs key covered
      | inr uncovered ↦
          let ys = without_covered p xs in
          let before : Pattern → Bool = λ other. is_before other p in
          let behind : Pattern → Bool = λ other. is_before p other in
          let front = filter before ys in
          let back = filter behind ys in
          let parts = any_parts (λ x. covers x key) before behind ys (untied_all p ys (beside_apart p xs uncovered)) in
          ap (λ l. any_covers l key) (with_uncovered p xs uncovered)
          ∙ list_any-append (λ x. covers x key) front (p ∷ back)
          ∙ or_left_comm (any_covers front key) (covers p key) (any_covers back key)
          ∙ ap (λ b. covers p key || b) parts
          ∙ beside_keys p xs key
    ]
