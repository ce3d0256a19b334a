use Rattle.std.proofs.Common.{◌≡◌, ◌==◌, ◌&&◌, true, not, List, [], ◌∷◌, ◌++◌, length, refl, sym, ◌∙◌, ap, subst}
use Rattle.std.specs.List.{list_all}
use Rattle.control_defs.specs.declared.patterns.Pattern.{Pattern}
use Rattle.control_defs.specs.Lists.{IsPatternList, is_pattern_list, may_precede}
use Rattle.control_defs.proofs.Tested.{IsPatternList-append, tested-append}
use Rattle.control_defs.proofs.lists.Patterns.append.Goals as goal
use Rattle.control_defs.proofs.lists.Patterns.append.Goals.{then-is_full-via-then-is_full, then-is_full-via-else-is_full+then-not-precedes}

pub returns-then-is_full-clause-lawful_with : goal.returns-then-is_full-clause-lawful_with
returns-then-is_full-clause-lawful_with c =
    let xs = c.args.self.now in
    let lawful = subst IsPatternList c.self.view_is c.self.invariant in
    let full = c.is_full.ensures.value ∙ ap (λ (xs : List Pattern). length xs == 64) c.self.view_is in
    elim c.then-is_full.branch [
      | then-is_full-via-then-is_full w ↦
          let each = list_all (λ p. may_precede p c.args.pattern) xs in
          sym (tested-append xs c.args.pattern c.is_full.result each lawful full refl ∙ ap (λ b. not b && each) w.if-is_full.true)
      | then-is_full-via-else-is_full+then-not-precedes w ↦
          sym
          (tested-append xs c.args.pattern c.is_full.result w.precedes.result lawful full w.precedes.ensures.each
          ∙ rw (w.if-is_full.false, w.if-not-precedes.true) refl)
    ]

tested : (c : goal.After-push) → is_pattern_list (c.args.self.now ++ c.args.pattern ∷ []) ≡ true
tested c =
    let full = c.is_full.ensures.value ∙ ap (λ (xs : List Pattern). length xs == 64) c.self.view_is in
    tested-append c.args.self.now c.args.pattern c.is_full.result c.precedes.result c.precedes.ensures.lawful full c.precedes.ensures.each
    ∙ rw (c.if-is_full.false, c.if-not-precedes.false) refl

kept : (c : goal.After-push) → IsPatternList c.push.new.self.items
kept c =
    rw (c.push.ensures.items, c.self.view_is)
    (IsPatternList-append c.args.self.now c.args.pattern c.precedes.ensures.lawful c.requires (tested c))

pub invariant_of-self : goal.invariant_of-self
invariant_of-self c = kept c

pub returns-clause-lawful_with : goal.returns-clause-lawful_with
returns-clause-lawful_with c = sym (tested c)

pub returns-clause-lawful : goal.returns-clause-lawful
returns-clause-lawful c = kept c
