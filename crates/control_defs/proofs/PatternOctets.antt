-- Patterns and their five octets.
use Rattle.std.proofs.Common.{◌≡◌, inl, inr, ℕ, zero, suc, ◌+◌, ◌-◌, ◌*◌, ◌/◌, ◌%◌, ◌<◌, ◌≤◌, ◌==◌, ◌&&◌, ◌||◌, Bool, false, true, not, List, [], ◌∷◌, ◌++◌, length, drop, slice_index, Some, None, refl, sym, ◌∙◌, ap, arith, length-append}
use Rattle.std.proofs.lemmas.Bool.{and_from, and_right, cases_lt, cond-false, cond-true, eqb-true, false_from_ne_true, le-leb, le-ltb, lt-ltb, not-false, or_parts, ltb-false}
use Rattle.std.proofs.lemmas.List.Folds.{Any-from_list_any, list_any_at}
use Rattle.std.proofs.lemmas.List.Quantifiers.{position-Some}
use Rattle.std.proofs.lemmas.List.Sums.{fails_before_first}
use Rattle.std.specs.List.{Any, list_any, position_or_len}
use Rattle.std.specs.Prelude.{All, MatchOption, Option, is_some, nat_le, nat_lt, position}
use Rattle.byteorder.specs.Numbers.{big_number-reads_back}
use Rattle.octet_fields.specs.Fields.{big_bytes}
use Rattle.control_defs.specs.declared.patterns.Pattern.{Pattern}
use Rattle.control_defs.specs.declared.patterns.Pattern.TheVariants.{Every, App, Service, Kind}
use Rattle.control_defs.specs.Patterns.{HasPatternOctets, IsPattern}
use Rattle.control_defs.specs.PatternOctets.{apid_in, first_wrong_in_pattern, form_in, is_right_pattern, is_wrong_in_pattern, pattern_in, pattern_octets, pattern_places, spelled_pattern, used_by}

pub length-pattern_octets : (pattern : Pattern) → length (pattern_octets pattern) ≡ 5
length-pattern_octets Every = refl
length-pattern_octets (App apid) = refl
length-pattern_octets (Service apid service) = refl
length-pattern_octets (Kind apid service subtype) = refl

-- none of the five octets at the front is wrong
abbrev pub IsRightPattern : List ℕ → Type 0
IsRightPattern octets = (place : ℕ) → place < 5 → is_wrong_in_pattern octets place ≡ false

-- the same, rule by rule
record HasRightFields (octets : List ℕ) : Type 0 where
  form : nat_lt 3 (form_in octets) ≡ false
  apid : nat_lt 2047 (apid_in octets) ≡ false
  unused : (place : ℕ) → place < 5 → (nat_le (used_by (form_in octets)) place && not (slice_index octets place == 0)) ≡ false

right_fields : (octets : List ℕ) → IsRightPattern octets → HasRightFields octets
right_fields octets right = record {
  form = (or_parts (nat_lt 3 (form_in octets)) false (parts 0 (omega arith)).0).0;
  apid = (parts 1 (omega arith)).0;
  unused = λ place within. (parts place within).1;
}
  where
    parts : (place : ℕ) → place < 5
        → (((place == 0 && nat_lt 3 (form_in octets)) || (place == 1 && nat_lt 2047 (apid_in octets))) ≡ false)
        × ((nat_le (used_by (form_in octets)) place && not (slice_index octets place == 0)) ≡ false)
    parts place within =
        or_parts ((place == 0 && nat_lt 3 (form_in octets)) || (place == 1 && nat_lt 2047 (apid_in octets)))
        (nat_le (used_by (form_in octets)) place && not (slice_index octets place == 0)) (right place within)

right_pattern : (octets : List ℕ) → HasRightFields octets → IsRightPattern octets
right_pattern octets fields place within =
    let form : (place == 0 && nat_lt 3 (form_in octets)) ≡ false = and_right (place == 0) (nat_lt 3 (form_in octets)) fields.form in
    let apid : (place == 1 && nat_lt 2047 (apid_in octets)) ≡ false = and_right (place == 1) (nat_lt 2047 (apid_in octets)) fields.apid in
    rw (form, apid, fields.unused place within) refl

-- an octet that is not used is 0
unused_is : (octet : ℕ) → (true && not (octet == 0)) ≡ false → octet ≡ 0
unused_is octet right = eqb-true octet 0 (not-false (octet == 0) right)

-- the five octets that a pattern has, one by one
each_unused : (a b c d e : ℕ) (rest : List ℕ)
    → (nat_le (used_by a) 0 && not (a == 0)) ≡ false → (nat_le (used_by a) 1 && not (b == 0)) ≡ false
    → (nat_le (used_by a) 2 && not (c == 0)) ≡ false → (nat_le (used_by a) 3 && not (d == 0)) ≡ false
    → (nat_le (used_by a) 4 && not (e == 0)) ≡ false → (place : ℕ) → place < 5
    → (nat_le (used_by a) place && not (slice_index (a ∷ b ∷ c ∷ d ∷ e ∷ rest) place == 0)) ≡ false
each_unused a b c d e rest first second third fourth fifth zero within = first
each_unused a b c d e rest first second third fourth fifth (suc zero) within = second
each_unused a b c d e rest first second third fourth fifth (suc (suc zero)) within = third
each_unused a b c d e rest first second third fourth fifth (suc (suc (suc zero))) within = fourth
each_unused a b c d e rest first second third fourth fifth (suc (suc (suc (suc zero)))) within = fifth
each_unused a b c d e rest first second third fourth fifth (suc (suc (suc (suc (suc place))))) within = absurd (omega arith)

-- two octets are those of their number
big_bytes-pair : (first second : ℕ) → first < 256 → second < 256 → big_bytes 2 (first * 256 + (second * 1 + 0)) ≡ first ∷ second ∷ []
big_bytes-pair first second a b =
    let high : (first * 256 + (second * 1 + 0)) / 256 % 256 ≡ first = omega arith in
    let low : (first * 256 + (second * 1 + 0)) % 256 ≡ second = omega arith in
    rw (high, low) refl

-- a pattern by its fields, where they are right

module _ (b c d e : ℕ) (rest : List ℕ) where
  by_form : (a : ℕ) → HasRightFields (a ∷ b ∷ c ∷ d ∷ e ∷ rest) → b < 256 → c < 256 → pattern_octets (pattern_in (a ∷ b ∷ c ∷ d ∷ e ∷ rest)) ≡ a ∷ b ∷ c ∷ d ∷ e ∷ []
  by_form zero right high low =
      let no_high : b ≡ 0 = unused_is b (right.unused 1 (omega arith)) in
      let no_low : c ≡ 0 = unused_is c (right.unused 2 (omega arith)) in
      let no_service : d ≡ 0 = unused_is d (right.unused 3 (omega arith)) in
      let no_subtype : e ≡ 0 = unused_is e (right.unused 4 (omega arith)) in
      rw (no_high, no_low, no_service, no_subtype) refl
  by_form (suc zero) right high low =
      let no_service : d ≡ 0 = unused_is d (right.unused 3 (omega arith)) in
      let no_subtype : e ≡ 0 = unused_is e (right.unused 4 (omega arith)) in
      rw (no_service, no_subtype) (ap (λ (l : List ℕ). 1 ∷ l ++ 0 ∷ 0 ∷ []) (big_bytes-pair b c high low))
  by_form (suc (suc zero)) right high low =
      let no_subtype : e ≡ 0 = unused_is e (right.unused 4 (omega arith)) in
      rw no_subtype (ap (λ (l : List ℕ). 2 ∷ l ++ d ∷ 0 ∷ []) (big_bytes-pair b c high low))
  by_form (suc (suc (suc zero))) right high low = ap (λ (l : List ℕ). 3 ∷ l ++ d ∷ e ∷ []) (big_bytes-pair b c high low)
  by_form (suc (suc (suc (suc a)))) right high low = let form = ltb-false 3 (suc (suc (suc (suc a)))) right.form in absurd (omega arith)

  lawful_by_form : (a : ℕ) → HasRightFields (a ∷ b ∷ c ∷ d ∷ e ∷ rest) → IsPattern (pattern_in (a ∷ b ∷ c ∷ d ∷ e ∷ rest))
  lawful_by_form zero right = tt
  lawful_by_form (suc zero) right = ltb-false 2047 (apid_in (1 ∷ b ∷ c ∷ d ∷ e ∷ rest)) right.apid
  lawful_by_form (suc (suc zero)) right = ltb-false 2047 (apid_in (2 ∷ b ∷ c ∷ d ∷ e ∷ rest)) right.apid
  lawful_by_form (suc (suc (suc zero))) right = ltb-false 2047 (apid_in (3 ∷ b ∷ c ∷ d ∷ e ∷ rest)) right.apid
  lawful_by_form (suc (suc (suc (suc a)))) right = let form = ltb-false 3 (suc (suc (suc (suc a)))) right.form in absurd (omega arith)

  fits_by_form : (a : ℕ) → HasRightFields (a ∷ b ∷ c ∷ d ∷ e ∷ rest) → d < 256 → e < 256 → HasPatternOctets (pattern_in (a ∷ b ∷ c ∷ d ∷ e ∷ rest))
  fits_by_form zero right service subtype = tt
  fits_by_form (suc zero) right service subtype = tt
  fits_by_form (suc (suc zero)) right service subtype = omega arith
  fits_by_form (suc (suc (suc zero))) right service subtype = (omega arith, omega arith)
  fits_by_form (suc (suc (suc (suc a)))) right service subtype = let form = ltb-false 3 (suc (suc (suc (suc a)))) right.form in absurd (omega arith)

-- What five octets at the front spell, where none of them is wrong.
pub record ReadsPattern (octets : List ℕ) : Type 0 where
  pub lawful : IsPattern (pattern_in octets)
  pub fits : HasPatternOctets (pattern_in octets)
  pub octets_are : octets ≡ pattern_octets (pattern_in octets) ++ drop 5 octets

pub ReadsPattern-right : (octets : List ℕ) → All (λ (octet : ℕ). octet < 256) octets → 5 ≤ length octets → IsRightPattern octets → ReadsPattern octets
ReadsPattern-right (a ∷ b ∷ c ∷ d ∷ e ∷ rest) fit long right =
    let fields = right_fields (a ∷ b ∷ c ∷ d ∷ e ∷ rest) right in record {
      lawful = lawful_by_form b c d e rest a fields;
      fits = fits_by_form b c d e rest a fields (fit 3 0 (omega arith)) (fit 4 0 (omega arith));
      octets_are = ap (λ (l : List ℕ). l ++ rest) (sym (by_form b c d e rest a fields (fit 1 0 (omega arith)) (fit 2 0 (omega arith))));
    }
ReadsPattern-right _ fit long right = absurd (omega arith)

-- and the other way round: a pattern is what its octets spell

pub pattern_in-octets : (pattern : Pattern) (rest : List ℕ) → IsPattern pattern → pattern_in (pattern_octets pattern ++ rest) ≡ pattern
pattern_in-octets Every rest lawful = refl
pattern_in-octets (App apid) rest lawful = ap App (big_number-reads_back 2 apid (0 ∷ 0 ∷ rest) (omega arith))
pattern_in-octets (Service apid service) rest lawful =
    ap (λ (a : ℕ). Service a service) (big_number-reads_back 2 apid (service ∷ 0 ∷ rest) (omega arith))
pattern_in-octets (Kind apid service subtype) rest lawful =
    ap (λ (a : ℕ). Kind a service subtype) (big_number-reads_back 2 apid (service ∷ subtype ∷ rest) (omega arith))

pub IsRightPattern-octets : (pattern : Pattern) (rest : List ℕ) → IsPattern pattern → IsRightPattern (pattern_octets pattern ++ rest)
IsRightPattern-octets Every rest lawful =
    right_pattern (pattern_octets Every ++ rest)
    (record { form = refl; apid = refl; unused = each_unused 0 0 0 0 0 rest refl refl refl refl refl })
IsRightPattern-octets (App apid) rest lawful =
    let back = big_number-reads_back 2 apid (0 ∷ 0 ∷ rest) (omega arith) in
    right_pattern (pattern_octets (App apid) ++ rest)
    (record {
      form = refl;
      apid = le-ltb 2047 (apid_in (pattern_octets (App apid) ++ rest)) (omega (arith, back));
      unused = each_unused 1 _ _ 0 0 rest refl refl refl refl refl;
    })
IsRightPattern-octets (Service apid service) rest lawful =
    let back = big_number-reads_back 2 apid (service ∷ 0 ∷ rest) (omega arith) in
    right_pattern (pattern_octets (Service apid service) ++ rest)
    (record {
      form = refl;
      apid = le-ltb 2047 (apid_in (pattern_octets (Service apid service) ++ rest)) (omega (arith, back));
      unused = each_unused 2 _ _ service 0 rest refl refl refl refl refl;
    })
IsRightPattern-octets (Kind apid service subtype) rest lawful =
    let back = big_number-reads_back 2 apid (service ∷ subtype ∷ rest) (omega arith) in
    right_pattern (pattern_octets (Kind apid service subtype) ++ rest)
    (record {
      form = refl;
      apid = le-ltb 2047 (apid_in (pattern_octets (Kind apid service subtype) ++ rest)) (omega (arith, back));
      unused = each_unused 3 _ _ service subtype rest refl refl refl refl refl;
    })

-- what the first wrong octet says of the pattern that is spelled

found_any : (test : ℕ → Bool) (xs : List ℕ) (i : ℕ) → position test xs ≡ Some i → list_any test xs ≡ true
found_any test xs i found = let at = position-Some test xs i 0 found in list_any_at test xs i 0 at.0 at.1

none_any : (test : ℕ → Bool) (xs : List ℕ) → position test xs ≡ None → list_any test xs ≡ false
none_any test xs none = false_from_ne_true (list_any test xs) (λ some. by (Any-from_list_any test xs some))
  where
    by : Any (λ x. test x ≡ true) xs → ⊥
    by one = elim (cases_lt one.0 (position_or_len test xs)) [
      | inl before ↦ cc (one.3, one.4, fails_before_first test xs one.0 one.1 before)
      | inr at ↦
          let within : position_or_len test xs < length xs = omega (arith, one.2) in
          cc (none, cond-true (nat_lt (position_or_len test xs) (length xs)) (Some (position_or_len test xs)) None (lt-ltb (position_or_len test xs) (length xs) within))
    ]

right-test : (octets : List ℕ) → IsRightPattern octets → is_right_pattern octets ≡ true
right-test octets right =
    rw (right 0 (omega arith), right 1 (omega arith), right 2 (omega arith), right 3 (omega arith), right 4 (omega arith)) refl

spelled-right : (octets : List ℕ) → 5 ≤ length octets → first_wrong_in_pattern octets ≡ None → spelled_pattern octets ≡ Some (pattern_in octets)
unfolding spelled_pattern
spelled-right octets long none =
    let right : is_right_pattern octets ≡ true = ap not (none_any (is_wrong_in_pattern octets) pattern_places none) in
    cond-true (nat_le 5 (length octets) && is_right_pattern octets) (Some (pattern_in octets)) None
    (and_from (nat_le 5 (length octets)) (is_right_pattern octets) (le-leb 5 (length octets) long) right)

spelled-wrong : (octets : List ℕ) (place : ℕ) → first_wrong_in_pattern octets ≡ Some place → spelled_pattern octets ≡ None
unfolding spelled_pattern
spelled-wrong octets place found =
    let wrong : is_right_pattern octets ≡ false = ap not (found_any (is_wrong_in_pattern octets) pattern_places place found) in
    cond-false (nat_le 5 (length octets) && is_right_pattern octets) (Some (pattern_in octets)) None
    (and_right (nat_le 5 (length octets)) (is_right_pattern octets) wrong)

-- a reader that finds the place of the first wrong octet, from some place on
pub spelled-by : (octets : List ℕ) (at : ℕ) (found : Option ℕ) → 5 ≤ length octets
    → MatchOption found (first_wrong_in_pattern octets ≡ None) (λ place. (at ≤ place) × (first_wrong_in_pattern octets ≡ Some (place - at)))
    → (is_some found ≡ true → spelled_pattern octets ≡ None) × (is_some found ≡ false → spelled_pattern octets ≡ Some (pattern_in octets))
spelled-by octets at None long none = ((λ some. cc), λ _. spelled-right octets long none)
spelled-by octets at (Some place) long found = ((λ _. spelled-wrong octets (place - at) found.1), λ none. cc)

pub spelled_pattern-octets : (pattern : Pattern) (rest : List ℕ) → IsPattern pattern → spelled_pattern (pattern_octets pattern ++ rest) ≡ Some pattern
unfolding spelled_pattern
spelled_pattern-octets pattern rest lawful =
    let long : 5 ≤ length (pattern_octets pattern ++ rest) = omega (arith, length-append (pattern_octets pattern) rest, length-pattern_octets pattern) in
    let octets = pattern_octets pattern ++ rest in
    cond-true (nat_le 5 (length octets) && is_right_pattern octets) (Some (pattern_in octets)) None
    (and_from (nat_le 5 (length octets)) (is_right_pattern octets) (le-leb 5 (length octets) long) (right-test octets (IsRightPattern-octets pattern rest lawful)))
    ∙ ap Some (pattern_in-octets pattern rest lawful)
