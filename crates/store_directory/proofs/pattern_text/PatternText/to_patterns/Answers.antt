use Rattle.std.proofs.Common.{◌≡◌, ℕ, ◌+◌, ◌<◌, false, true, List, [], ◌∷◌, ◌++◌, length, take, drop, Some, sym, ap, ◌∙◌, subst, arith}
use Rattle.std.specs.Prelude.{OnOk, Result, Ok, Err, is_ok, slice_get}
use Rattle.std.proofs.lemmas.Bool.{false_from_ne_true}
use Rattle.std.proofs.lemmas.List.{take-append-drop, take_all, take_more}
use Rattle.std.proofs.lemmas.Option.{get_or_from_slice_get}
use Rattle.control_defs.specs.declared.patterns.Pattern.{Pattern}
use Rattle.control_defs.specs.Lists.{IsPatternList, is_pattern_list}
use Rattle.control_defs.proofs.Tested.{tested-from, tested-front}
use Rattle.store_directory.proofs.pattern_text.PatternText.to_patterns.Goals as goal

-- the patterns so far, with the next one
with_next : (xs front : List Pattern) (i : ℕ) (p : Pattern) → i < length xs → slice_get xs i ≡ Some p → front ≡ take i xs → front ++ p ∷ [] ≡ take (i + 1) xs
with_next xs front i p within is same =
    ap (λ (l : List Pattern). l ++ p ∷ []) same ∙ ap (λ (q : Pattern). take i xs ++ q ∷ []) (sym (get_or_from_slice_get xs i p p is))
    ∙ sym (take_more xs i p within)

-- what a clause says of an Ok
from_ok : {T E P : Type 0} (result : Result T E) → is_ok result ≡ true → OnOk result P → P
from_ok (Ok value) is p = p
from_ok (Err why) is p = absurd cc

-- a list whose front may not be kept may not be kept
front_fails : (xs : List Pattern) (i : ℕ) → is_pattern_list (take i xs) ≡ false → is_pattern_list xs ≡ false
front_fails xs i fails = false_from_ne_true (is_pattern_list xs) both
  where
    both : is_pattern_list xs ≡ true → ⊥
    both passes =
        let front = tested-front (take i xs) (drop i xs) (ap is_pattern_list (take-append-drop i xs) ∙ passes) in cc

pub returns-then-is_err-clause-some : goal.returns-then-is_err-clause-some
returns-then-is_err-clause-some c =
    let xs = c.args.self.now in
    let i = c.loop-number.number in
    let within : i < length xs = omega (arith, c.len-number-end.ensures) in
    let next = with_next xs c.loop-number.patterns i c.get.result within c.get.ensures.pattern c.loop-number.invariant.same in
    sym (front_fails xs (i + 1) (ap is_pattern_list (sym next) ∙ sym c.append.ensures.lawful_with ∙ c.if-is_err.ensures.negation))

pub loop-number-preserved : goal.loop-number-preserved
loop-number-preserved c =
    let xs = c.args.self.now in
    let i = c.loop-number.number in
    let within : i < length xs = omega (arith, c.len-number-end.ensures) in
    let next = with_next xs c.loop-number.patterns i c.get.result within c.get.ensures.pattern c.loop-number.invariant.same in
    record {
      same = from_ok c.append.result c.if-is_err.ensures.negation c.append.ensures.ok ∙ next;
      lawful = c.append.ensures.lawful;
    }

pub returns-clause-some : goal.returns-clause-some
returns-clause-some c =
    let xs = c.args.self.now in
    let lawful = c.loop-number.invariant.lawful in
    let all = c.loop-number.invariant.same ∙ take_all c.loop-number.number xs (omega (arith, c.len-number-end.ensures)) in
    sym (tested-from xs (subst IsPatternList all lawful))
