use Rattle.control_defs.specs.Lists.{IsPatternList}
use Rattle.control_defs.proofs.Kept.{IsPatternList-insert}
use Rattle.control_defs.proofs.Places.{insert_is}
use Rattle.control_defs.proofs.lists.Patterns.place.Goals as goal

kept : (c : goal.After-insert) → IsPatternList c.insert.new.self.items
kept c =
    let place = c.in-Err.ensures in
    rw (c.insert.ensures.items, c.self.view_is)
    (IsPatternList-insert _ _ _ place.lawful c.requires.range c.requires.room c.requires.apart place.place)

pub invariant_of-self : goal.invariant_of-self
invariant_of-self c = kept c

pub returns-in-Err-clause-placed : goal.returns-in-Err-clause-placed
returns-in-Err-clause-placed c = rw (c.insert.ensures.items, c.self.view_is) (insert_is _ _ _ c.in-Err.ensures.place)

pub returns-in-Err-clause-lawful : goal.returns-in-Err-clause-lawful
returns-in-Err-clause-lawful c = kept c
