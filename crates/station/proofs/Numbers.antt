-- What number a word says, by what std's `parse` answers.
use Rattle.std.proofs.Common.{◌≡◌, ◌≤◌, ◌<◌, ◌≢◌, ℕ, ◌+◌, ◌*◌, ◌^◌, true, false, List, length, get_or, sym, ◌∙◌, ap, arith, inl, inr, rules}
use Rattle.std.proofs.lemmas.Bool.{false≢true, and_from, and_left, and_right, cases_Bool, cases_lt, cond-false, cond-true, le-leb, le-ltb, lt-ltb}
use Rattle.std.proofs.lemmas.Str.Parse.{IsNumeralModel, numerals_by_fold, parse_plain}
use Rattle.std.specs.Prelude.{◌-◌, ◌==◌, zero, suc, ◌⊎◌, fold, Some, None, Result, Ok, Err}
use Rattle.std.specs.List.{list_all}
use Rattle.std.specs.Result.{OkIff}
use Rattle.std.specs.Str.Parse.{ParsesUnsigned}
use Rattle.station.specs.Numbers.{is_digit, is_number, number_named, number_of}

own : IsNumeralModel (λ digits. list_all is_digit digits ≡ true) number_of
own = numerals_by_fold _ (search rules) (λ number digits. fold (λ number digit. 10 * number + (digit - 48)) number digits) (search rules)

-- no number
none_spelled : (word : List ℕ) → is_number word ≡ false → number_named word ≡ None
none_spelled word other = cond-false _ _ _ (and_left _ _ other)

too_many : (word : List ℕ) → 2 ^ 64 ≤ number_of word → number_named word ≡ None
too_many word many = cond-false _ _ _ (and_right (is_number word) _ (le-ltb (number_of word) 18446744073709551616 many))

-- a word that is not empty
some_octets : (count : ℕ) → false ≡ (count == 0) → 1 ≤ count
some_octets zero is = absurd (false≢true is)
some_octets (suc count) is = omega arith

-- the octets of a word of 1 to 20, the first of which is no sign
module _ (octets word : List ℕ) (same : octets ≡ word) (some : false ≡ (length octets == 0)) (short : length octets ≤ 20) (plain : get_or octets 0 0 ≢ 43) where
  at_least : 1 ≤ length word
  at_least = omega (arith, some_octets (length octets) some, ap length same)

  at_most : length word ≤ 20
  at_most = omega (arith, ap length same)

  spelled : {E : Type 0} (result : Result ℕ E) → ParsesUnsigned 64 10 word result → OkIff result ((list_all is_digit word ≡ true) × (0 < length word) × (number_of word < 2 ^ 64)) (number_of word)
  spelled result parses = parse_plain own 64 word result parses (λ sign. plain (ap (λ (octets : List ℕ). get_or octets 0 0) same ∙ sign))

  -- what `parse` refuses is no number, or is too large
  pub refused : {E : Type 0} (fault : E) → ParsesUnsigned 64 10 word (Err fault) → number_named word ≡ None
  refused {E} fault parses = by_digits (cases_Bool (list_all is_digit word))
    where
      by_digits : (list_all is_digit word ≡ true) ⊎ (list_all is_digit word ≡ false) → number_named word ≡ None
      by_digits (inr other) = none_spelled word (and_right _ _ other)
      by_digits (inl digits) = by_size (cases_lt (number_of word) (2 ^ 64))
        where
          by_size : (number_of word < 2 ^ 64) ⊎ (2 ^ 64 ≤ number_of word) → number_named word ≡ None
          by_size (inl lt) = absurd (spelled (Err fault) parses (digits, at_least, lt))
          by_size (inr le) = too_many word le

  -- what `parse` gives is the number
  pub given : (number : ℕ) → ParsesUnsigned {E = ℕ} 64 10 word (Ok number) → number_named word ≡ Some number
  given number parses =
      let (digits, is) = spelled {E = ℕ} (Ok number) parses in
      cond-true _ _ _ (and_from _ _ (and_from _ _ (and_from _ _ (le-leb 1 (length word) at_least) (le-leb (length word) 20 at_most)) digits.0) (lt-ltb (number_of word) 18446744073709551616 digits.2))
      ∙ ap Some (sym is)
