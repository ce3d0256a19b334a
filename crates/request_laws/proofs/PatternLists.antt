-- Lists of patterns that an instruction changes.
use Rattle.std.proofs.Common.{◌≡◌, ◌≤◌, Bool, true, false, List, length, Some, sym, ◌∙◌, ap, subst, arith}
use Rattle.std.specs.Prelude.{not, ⊤}
use Rattle.std.specs.Ordering.{is_eq}
use Rattle.std.specs.Option.{option_and_then}
use Rattle.std.proofs.lemmas.Bool.{le-leb}
use Rattle.control_defs.specs.Lists.{IsPatternList, is_standing, pattern_cmp, with_pattern, without_pattern}
use Rattle.control_defs.specs.Patterns.{IsPattern}
use Rattle.control_defs.specs.declared.patterns.Pattern.{Pattern}
use Rattle.control_defs.proofs.Kept.{IsPatternList-filter, IsPatternList-with}
use Rattle.store_directory.specs.Changes.{change_patterns}
use Rattle.store_directory.specs.Options.{given}
use Rattle.request_laws.proofs.Outcomes.{Added, Deleted}

adds : (pattern : Pattern) (patterns : List Pattern) → length (with_pattern pattern patterns) ≤ 64 → change_patterns true pattern patterns ≡ Some (with_pattern pattern patterns)
adds pattern patterns few =
    ap (λ (test : Bool). option_and_then (λ (_ : ⊤). Some (with_pattern pattern patterns)) (given test)) (le-leb (length (with_pattern pattern patterns)) 64 few)

removes : (pattern : Pattern) (patterns : List Pattern) → is_standing pattern patterns ≡ true → change_patterns false pattern patterns ≡ Some (without_pattern pattern patterns)
removes pattern patterns stands =
    ap (λ (test : Bool). option_and_then (λ (_ : ⊤). Some (without_pattern pattern patterns)) (given test)) stands

pub record Lists (add : Bool) (pattern : Pattern) (patterns made : List Pattern) : Type 0 where
  pub changed : change_patterns add pattern patterns ≡ Some made
  pub lawful : IsPatternList made

added : (pattern : Pattern) (patterns : List Pattern) → IsPattern pattern → IsPatternList patterns → length (with_pattern pattern patterns) ≤ 64
    → Lists true pattern patterns (with_pattern pattern patterns)
added pattern patterns is lawful few = record { changed = adds pattern patterns few; lawful = IsPatternList-with pattern patterns lawful is few }

removed : (pattern : Pattern) (patterns : List Pattern) → IsPatternList patterns → is_standing pattern patterns ≡ true
    → Lists false pattern patterns (without_pattern pattern patterns)
removed pattern patterns lawful stands = record {
  changed = removes pattern patterns stands;
  lawful = IsPatternList-filter (λ (other : Pattern). not (is_eq (pattern_cmp other pattern))) patterns lawful;
}

pub added_to : (pattern : Pattern) (shown listed made : List Pattern) → shown ≡ listed → IsPattern pattern → IsPatternList listed → Added pattern shown made → Lists true pattern listed made
added_to pattern shown listed made same lawful kept add =
    let is : with_pattern pattern listed ≡ made = ap (with_pattern pattern) (sym same) ∙ add.made_is in
    subst (Lists true pattern listed) is (added pattern listed lawful kept (omega (arith, add.few, ap length is)))

pub removed_from : (pattern : Pattern) (shown listed made : List Pattern) → shown ≡ listed → IsPatternList listed → Deleted pattern shown made → Lists false pattern listed made
removed_from pattern shown listed made same kept delete =
    subst (Lists false pattern listed) (ap (without_pattern pattern) (sym same) ∙ delete.made_is)
    (removed pattern listed kept (ap (is_standing pattern) (sym same) ∙ delete.stands))
