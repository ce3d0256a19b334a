-- Whether a pattern itself stands in a list.
use Rattle.std.proofs.Common.{◌≡◌, Bool, true, false, List, refl}
use Rattle.std.specs.Prelude.{Contains}
use Rattle.std.specs.Ordering.{is_eq}
use Rattle.std.specs.declared.cmp.Ordering.{Ordering}
use Rattle.std.specs.declared.cmp.Ordering.TheVariants.{Less, Equal, Greater}
use Rattle.std.proofs.lemmas.Cmp.{eq_by_cmp_equiv}
use Rattle.std.proofs.lemmas.Map.Views.{Contains-from_any, list_any-from_Contains}
use Rattle.control_defs.specs.declared.patterns.Pattern.{Pattern}
use Rattle.control_defs.specs.Lists.{is_standing, pattern_cmp}
use Rattle.control_defs.proofs.Order.{pattern_cmp_total, same_from_tied}

tied : (order : Ordering) → is_eq order ≡ true → order ≡ Equal
tied Less is = absurd cc
tied Equal is = refl
tied Greater is = absurd cc

pub standing-from_contains : (pattern : Pattern) (patterns : List Pattern) → Contains patterns pattern → is_standing pattern patterns ≡ true
standing-from_contains pattern patterns contains = list_any-from_Contains (eq_by_cmp_equiv pattern_cmp_total) pattern patterns contains

pub contains-from_standing : (pattern : Pattern) (patterns : List Pattern) → is_standing pattern patterns ≡ true → Contains patterns pattern
contains-from_standing pattern patterns stands = Contains-from_any (λ p q is. same_from_tied p q (tied (pattern_cmp p q) is)) pattern patterns stands

pub absent-from_none : (pattern : Pattern) (patterns : List Pattern) → ¬ (Contains patterns pattern) → is_standing pattern patterns ≡ false
absent-from_none pattern patterns none = by (is_standing pattern patterns) refl
  where
    by : (stands : Bool) → is_standing pattern patterns ≡ stands → is_standing pattern patterns ≡ false
    by true is = absurd (none (contains-from_standing pattern patterns is))
    by false is = is
