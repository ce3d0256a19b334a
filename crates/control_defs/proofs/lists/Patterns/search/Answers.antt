use Rattle.std.proofs.Common.{Some, subst, ◌∙◌, ◌≡◌}
use Rattle.std.specs.Prelude.{slice_get, IsOk, IfOk, IfErr, ◌↔◌, Contains}
use Rattle.control_defs.specs.Lists.{IsPatternList, IsPlace}
use Rattle.control_defs.proofs.Order.{search_ends}
use Rattle.control_defs.proofs.lists.Patterns.search.Goals as goal

ends : (c : goal.After-binary_search)
    → IfOk c.binary_search.result (λ i. slice_get c.args.self.now i ≡ Some c.args.pattern.now)
    × IfErr c.binary_search.result (IsPlace c.args.self.now c.args.pattern.now)
    × (IsOk c.binary_search.result ↔ Contains c.args.self.now c.args.pattern.now)
ends c =
    let lawful = subst IsPatternList c.self.view_is c.self.invariant in
    let found = c.binary_search.ensures in
    let same = c.deref.ensures.0 ∙ c.self.view_is in
    search_ends c.args.self.now c.deref.result.now c.args.pattern.now c.binary_search.result same lawful.rising
    found.bound found.ok found.position

pub returns-clause-stands : goal.returns-clause-stands
returns-clause-stands c = (ends c).2

pub returns-clause-found : goal.returns-clause-found
returns-clause-found c = (ends c).0

pub returns-clause-place : goal.returns-clause-place
returns-clause-place c = (ends c).1
