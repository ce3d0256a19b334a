-- Lists of patterns: sorted, and none covers another.
use Rattle.std.specs.Prelude.{◌≡◌, ◌≤◌, ◌++◌, ℕ, Bool, true, false, not, ◌&&◌, nat_le, if◌then◌else◌, List, [], ◌∷◌, length, filter, All, AllPairs}
use Rattle.std.specs.List.{AllWithin, list_all, list_any}
use Rattle.std.specs.Ordering.{is_eq, is_lt, nat_cmp, ordering_then}
use Rattle.std.specs.declared.cmp.Ordering.{Ordering}
use Rattle.std.specs.declared.cmp.Ordering.TheVariants.{Less, Greater}
use Rattle.control_defs.specs.declared.patterns.Pattern.{Pattern}
use Rattle.control_defs.specs.declared.patterns.Pattern.TheVariants.{Every, App, Service, Kind}
use Rattle.control_defs.specs.Patterns.{IsPattern, pattern_covers}

-- the place of a pattern's form among the forms
abbrev pub pattern_form : Pattern → ℕ
pattern_form Every = 0
pattern_form (App apid) = 1
pattern_form (Service apid service) = 2
pattern_form (Kind apid service subtype) = 3

-- the APID in a pattern, and 0 where it has none
abbrev pub pattern_apid : Pattern → ℕ
pattern_apid Every = 0
pattern_apid (App apid) = apid
pattern_apid (Service apid service) = apid
pattern_apid (Kind apid service subtype) = apid

-- the service in a pattern, and 0 where it has none
abbrev pub pattern_service : Pattern → ℕ
pattern_service Every = 0
pattern_service (App apid) = 0
pattern_service (Service apid service) = service
pattern_service (Kind apid service subtype) = service

-- the subtype in a pattern, and 0 where it has none
abbrev pub pattern_subtype : Pattern → ℕ
pattern_subtype Every = 0
pattern_subtype (App apid) = 0
pattern_subtype (Service apid service) = 0
pattern_subtype (Kind apid service subtype) = subtype

-- the order of patterns: by form, then by the fields from the left
abbrev pub pattern_cmp : Pattern → Pattern → Ordering
pattern_cmp p q =
    ordering_then (nat_cmp (pattern_form p) (pattern_form q))
    (ordering_then (nat_cmp (pattern_apid p) (pattern_apid q))
    (ordering_then (nat_cmp (pattern_service p) (pattern_service q))
    (nat_cmp (pattern_subtype p) (pattern_subtype q))))

-- a pattern is before another
abbrev pub is_before : Pattern → Pattern → Bool
is_before p q = is_lt (pattern_cmp p q)

-- one of the patterns covers a pattern
abbrev pub is_covered : Pattern → List Pattern → Bool
is_covered pattern patterns = list_any (λ other. pattern_covers other pattern) patterns

-- neither of two patterns covers the other
abbrev pub AreApart : Pattern → Pattern → Type 0
AreApart p q = (pattern_covers p q ≡ false) × (pattern_covers q p ≡ false)

-- a list of patterns as it is kept
pub record IsPatternList (patterns : List Pattern) : Type 0 where
  -- each is before all behind it, so none is there twice
  pub rising : AllPairs (λ p q. pattern_cmp p q ≡ Less) patterns
  -- none covers another
  pub apart : AllPairs AreApart patterns
  -- there is room for 64
  pub fits : length patterns ≤ 64
  -- each APID has its eleven bits
  pub ranges : All IsPattern patterns

-- the place in a list where a pattern that is not in it would stand
pub record IsPlace (patterns : List Pattern) (pattern : Pattern) (at : ℕ) : Type 0 where
  pub within : at ≤ length patterns
  pub below : AllWithin (λ other. pattern_cmp other pattern ≡ Less) patterns 0 at
  pub above : AllWithin (λ other. pattern_cmp other pattern ≡ Greater) patterns at (length patterns)

-- a list without the patterns that a pattern covers
abbrev pub without_covered : Pattern → List Pattern → List Pattern
without_covered pattern patterns = filter (λ other. not (pattern_covers pattern other)) patterns

-- a pattern between those of a list that are before it and those that it is before
abbrev pub placed : Pattern → List Pattern → List Pattern
placed pattern patterns =
    filter (λ other. is_before other pattern) patterns
    ++ pattern ∷ filter (λ other. is_before pattern other) patterns

-- A list with a pattern: the same list where it covers the pattern already, or else the pattern at
-- its place in the order, among those that it does not cover.
abbrev pub with_pattern : Pattern → List Pattern → List Pattern
with_pattern pattern patterns =
    if is_covered pattern patterns then patterns
    else placed pattern (without_covered pattern patterns)

-- a list without a pattern itself
abbrev pub without_pattern : Pattern → List Pattern → List Pattern
without_pattern pattern patterns =
    filter (λ other. not (is_eq (pattern_cmp other pattern))) patterns

-- whether a pattern itself stands in a list
abbrev pub is_standing : Pattern → List Pattern → Bool
is_standing pattern patterns = list_any (λ other. is_eq (pattern_cmp pattern other)) patterns

-- Whether a pattern may stand in a list in front of another one: it is before it, and neither covers
-- the other.
abbrev pub may_precede : Pattern → Pattern → Bool
may_precede p q = is_before p q && (not (pattern_covers p q) && not (pattern_covers q p))

-- whether each pattern may stand in front of each behind it
abbrev pub are_in_order : List Pattern → Bool
are_in_order [] = true
are_in_order (p ∷ patterns) = list_all (may_precede p) patterns && are_in_order patterns

-- whether a list of patterns may be kept
abbrev pub is_pattern_list : List Pattern → Bool
is_pattern_list patterns = nat_le (length patterns) 64 && are_in_order patterns
