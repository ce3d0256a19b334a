use Rattle.std.proofs.Common.{◌≡◌, ap, subst, sym, ◌∙◌, rules}
use Rattle.arrayvec.proofs.ArrayVecLemmas.{filter-from_retain}
use Rattle.control_defs.specs.Lists.{IsPatternList, without_covered}
use Rattle.control_defs.proofs.Kept.{IsPatternList-filter}
use Rattle.control_defs.proofs.lists.Patterns.remove_covered.Goals as goal

kept : (c : goal.After-retain) → c.retain.new.self.items ≡ without_covered c.args.pattern.now c.self.inside.items.items
kept c = filter-from_retain _ _ _ (λ x b f' y called. search rules) _ _ c.retain.ensures.filtered

pub invariant_of-self : goal.invariant_of-self
invariant_of-self c = subst IsPatternList (sym (kept c)) (IsPatternList-filter _ _ c.self.invariant)

pub returns : goal.returns
returns c = kept c ∙ ap (without_covered c.args.pattern.now) c.self.view_is
