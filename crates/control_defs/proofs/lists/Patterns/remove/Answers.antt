use Rattle.std.proofs.Common.{refl, sym}
use Rattle.control_defs.specs.Lists.{IsPatternList}
use Rattle.control_defs.proofs.Kept.{IsPatternList-filter}
use Rattle.control_defs.proofs.Places.{remove_is}
use Rattle.control_defs.proofs.Standing.{absent-from_none, standing-from_contains}
use Rattle.control_defs.proofs.lists.Patterns.remove.Goals as goal

kept : (c : goal.After-remove) → IsPatternList c.remove.new.self.items
kept c =
    let place = c.in-Ok.ensures in
    let removed = remove_is _ _ _ place.lawful place.within place.found in
    rw (c.remove.ensures.items, c.self.view_is, removed) (IsPatternList-filter _ _ place.lawful)

pub invariant_of-self : goal.invariant_of-self
invariant_of-self c = kept c

pub returns-in-Ok-clause-ok : goal.returns-in-Ok-clause-ok
returns-in-Ok-clause-ok c =
    let place = c.in-Ok.ensures in
    rw (c.remove.ensures.items, c.self.view_is) (remove_is _ _ _ place.lawful place.within place.found)

pub returns-in-Ok-clause-standing : goal.returns-in-Ok-clause-standing
returns-in-Ok-clause-standing c = sym (standing-from_contains c.args.pattern c.args.self.now (c.in-Ok.ensures.stands.0 refl))

pub returns-in-Err-clause-standing : goal.returns-in-Err-clause-standing
returns-in-Err-clause-standing c = sym (absent-from_none c.args.pattern c.args.self.now (λ stands. let no = c.in-Err.ensures.stands.1 stands in cc))

pub returns-in-Ok-clause-lawful : goal.returns-in-Ok-clause-lawful
returns-in-Ok-clause-lawful c = kept c
