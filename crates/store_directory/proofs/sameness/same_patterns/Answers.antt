use Rattle.std.proofs.Common.{◌≡◌, Bool, true, false, ◌&&◌, ◌==◌, refl}
use Rattle.std.proofs.lemmas.Bool.Decides.{Decides-at}
use Rattle.std.proofs.lemmas.Slice.Eq.{slice_eq-Decides}
use Rattle.control_defs.specs.contracts.patterns.PatternPartialEq.TheImpl.{eq-value}
use Rattle.control_defs.specs.declared.patterns.Pattern.{Pattern}
use Rattle.control_defs.specs.declared.patterns.Pattern.TheVariants.{App, Every, Kind, Service}
use Rattle.store_directory.specs.Same.{same_pattern}
use Rattle.store_directory.proofs.Sames.{one_pattern}
use Rattle.store_directory.proofs.sameness.same_patterns.Goals as goal

three_tests : (a b c : Bool) → (a && (b && c)) ≡ (a && b && c)
three_tests true b c = refl
three_tests false b c = refl

compared : (a b : Pattern) → eq-value.it a b ≡ same_pattern a b
compared Every Every = refl
compared (App a) (App b) = refl
compared (Service a s) (Service b t) = refl
compared (Kind a s m) (Kind b t n) = three_tests (a == b) (s == t) (m == n)
compared _ _ = refl

pub returns : goal.returns
returns c = slice_eq-Decides (λ a b. Decides-at (eq-value.it a b) (same_pattern a b) (compared a b) (one_pattern a b)) _ _ _ c.eq.ensures
