-- Patterns in a text.
use Rattle.std.proofs.Common.{◌≡◌, ℕ, zero, suc, ◌+◌, ◌-◌, ◌*◌, ◌<◌, ◌≤◌, ◌&&◌, true, false, nat_le, List, [], ◌∷◌, length, drop, Option, Some, None, refl, sym, ap, ◌∙◌, arith, length-drop}
use Rattle.std.specs.Prelude.{is_some, slice_get}
use Rattle.std.proofs.lemmas.Bool.{and_parts, leb-true}
use Rattle.std.proofs.lemmas.List.{drop-drop}
use Rattle.std.proofs.lemmas.Option.{cond_some, slice_get-get_or}
use Rattle.control_defs.specs.declared.patterns.Pattern.{Pattern}
use Rattle.control_defs.specs.declared.patterns.Pattern.TheVariants.{Every}
use Rattle.control_defs.specs.PatternOctets.{is_right_pattern, pattern_in, spelled_pattern}
use Rattle.store_directory.specs.Checkpoints.{patterns_in}
use Rattle.store_directory.specs.Options.{◌>>=◌}
use Rattle.store_directory.specs.Views.{patterns_read}
use Rattle.store_directory.proofs.Steps.{is_some-made, some_then}

-- a pattern in front of those that are read behind it
abbrev then_patterns : (count : ℕ) → List ℕ → Pattern → Option (List Pattern)
then_patterns count text pattern = patterns_in count (drop 5 text) >>= λ patterns. Some (pattern ∷ patterns)

-- five octets are there
spelled_long : (text : List ℕ) (pattern : Pattern) → spelled_pattern text ≡ Some pattern → 5 ≤ length text
unfolding spelled_pattern
spelled_long text pattern is =
    let whole = cond_some (nat_le 5 (length text) && is_right_pattern text) (pattern_in text) pattern is in
    leb-true 5 (length text) (and_parts (nat_le 5 (length text)) (is_right_pattern text) whole.0).0

-- What patterns in a text are.
pub record Spell (count : ℕ) (text : List ℕ) (patterns : List Pattern) : Type 0 where
  pub many : length patterns ≡ count
  pub long : 5 * count ≤ length text
  pub each : (at : ℕ) → at < count → slice_get patterns at ≡ spelled_pattern (drop (5 * at) text)

pub spell-from : (count : ℕ) (text : List ℕ) (patterns : List Pattern) → patterns_in count text ≡ Some patterns → Spell count text patterns
spell-from zero text [] is = record { many = refl; long = omega arith; each = λ at within. absurd (omega arith) }
spell-from zero text (pattern ∷ patterns) is = absurd cc
spell-from (suc count) text [] is =
    let (first, found, rest) = some_then (spelled_pattern text) (then_patterns count text) [] is in
    let (others, more, all) = some_then (patterns_in count (drop 5 text)) (λ patterns. Some (first ∷ patterns)) [] rest in
    absurd cc
spell-from (suc count) text (pattern ∷ patterns) is =
    let (first, found, rest) = some_then (spelled_pattern text) (then_patterns count text) (pattern ∷ patterns) is in
    let (others, more, all) = some_then (patterns_in count (drop 5 text)) (λ patterns. Some (first ∷ patterns)) (pattern ∷ patterns) rest in
    let same : others ≡ patterns = cc in
    let head : first ≡ pattern = cc in
    let spell = spell-from count (drop 5 text) patterns (more ∙ ap Some same) in
    let long = spelled_long text first found in
    let behind = spell.long in
    let many = spell.many in record {
      many = omega (arith, many);
      long = omega (arith, long, behind, length-drop 5 text);
      each = place (found ∙ ap Some head) spell.each;
    }
  where
    place : spelled_pattern text ≡ Some pattern → ((at : ℕ) → at < count → slice_get patterns at ≡ spelled_pattern (drop (5 * at) (drop 5 text)))
        → (at : ℕ) → at < suc count → slice_get (pattern ∷ patterns) at ≡ spelled_pattern (drop (5 * at) text)
    place found each zero within = sym found
    place found each (suc at) within =
        each at (omega arith) ∙ ap spelled_pattern (drop-drop (5 * at) 5 text ∙ ap (λ (n : ℕ). drop n text) (omega arith))

-- the pattern at a place of a view
pub record SpelledAt (at : ℕ) (text : List ℕ) (patterns : List Pattern) : Type 0 where
  pub within : 5 * at + 5 ≤ length text
  pub is : slice_get patterns at ≡ spelled_pattern (drop (5 * at) text)
  pub some : is_some (spelled_pattern (drop (5 * at) text)) ≡ true

pub spelled-at : (count at : ℕ) (text : List ℕ) (patterns : List Pattern) → patterns_in count text ≡ Some (patterns_read count text)
    → patterns_read count text ≡ patterns → at < length patterns → SpelledAt at text patterns
spelled-at count at text patterns are same inside =
    let spell = spell-from count text patterns (are ∙ ap Some same) in
    let many = spell.many in
    let long = spell.long in
    let place : at < count = omega (arith, many) in
    let is = spell.each at place in record {
      within = omega (arith, long, place);
      is = is;
      some = ap is_some (sym is ∙ slice_get-get_or patterns at Every inside);
    }

-- What is behind the first patterns of a text: the others are spelled where all are.
pub record IsBehind (count done : ℕ) (text rest : List ℕ) : Type 0 where
  pub spelled : is_some (patterns_in count text) ≡ is_some (patterns_in (count - done) rest)
  pub rest_is : rest ≡ drop (5 * done) text

pub IsBehind-none : (count : ℕ) (text : List ℕ) → IsBehind count 0 text text
IsBehind-none count text = record { spelled = ap (λ (n : ℕ). is_some (patterns_in n text)) (omega arith); rest_is = refl }

step_some : (count : ℕ) (text : List ℕ) → is_some (spelled_pattern text) ≡ true → is_some (patterns_in (suc count) text) ≡ is_some (patterns_in count (drop 5 text))
step_some count text = by (spelled_pattern text) refl
  where
    by : (found : Option Pattern) → spelled_pattern text ≡ found → is_some found ≡ true → is_some (patterns_in (suc count) text) ≡ is_some (patterns_in count (drop 5 text))
    by None is some = absurd cc
    by (Some pattern) is some =
        ap (λ (o : Option Pattern). is_some (o >>= then_patterns count text)) is ∙ is_some-made (λ patterns. pattern ∷ patterns) (patterns_in count (drop 5 text))

step_none : (count : ℕ) (text : List ℕ) → spelled_pattern text ≡ None → is_some (patterns_in (suc count) text) ≡ false
step_none count text none = ap (λ (o : Option Pattern). is_some (o >>= then_patterns count text)) none

pub IsBehind-more : (count done : ℕ) (text rest next : List ℕ) → done < count → IsBehind count done text rest
    → (is_some (spelled_pattern rest) ≡ true) × (next ≡ drop 5 rest) → IsBehind count (done + 1) text next
IsBehind-more count done text rest next within behind step =
    let left : ℕ = count - (done + 1) in
    let split : count - done ≡ suc left = omega arith in record {
      spelled =
          behind.spelled ∙ ap (λ (n : ℕ). is_some (patterns_in n rest)) split ∙ step_some left rest step.0
          ∙ ap (λ (octets : List ℕ). is_some (patterns_in left octets)) (sym step.1);
      rest_is =
          step.1 ∙ ap (drop 5) behind.rest_is ∙ drop-drop 5 (5 * done) text ∙ ap (λ (n : ℕ). drop n text) (omega arith);
    }

pub IsBehind-broken : (count done : ℕ) (text rest : List ℕ) → done < count → IsBehind count done text rest → spelled_pattern rest ≡ None → is_some (patterns_in count text) ≡ false
IsBehind-broken count done text rest within behind none =
    let left : ℕ = count - (done + 1) in
    let split : count - done ≡ suc left = omega arith in
    behind.spelled ∙ ap (λ (n : ℕ). is_some (patterns_in n rest)) split ∙ step_none left rest none

pub IsBehind-all : (count done : ℕ) (text rest : List ℕ) → count ≤ done → IsBehind count done text rest → is_some (patterns_in count text) ≡ true
IsBehind-all count done text rest all behind =
    let split : count - done ≡ 0 = omega arith in
    behind.spelled ∙ ap (λ (n : ℕ). is_some (patterns_in n rest)) split
