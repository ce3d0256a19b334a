use Rattle.std.specs.Prelude.{not}
use Rattle.std.specs.Ordering.{is_eq}
use Rattle.control_defs.specs.Lists.{pattern_cmp}
use Rattle.control_defs.proofs.Kept.{IsPatternList-filter, IsPatternList-with, any_covers-with}
use Rattle.control_defs.proofs.laws.lists_stay_lawful.Goals as goal

pub returns-clause-with_one : goal.returns-clause-with_one
returns-clause-with_one c = IsPatternList-with

pub returns-clause-without : goal.returns-clause-without
returns-clause-without c p xs h = IsPatternList-filter (λ other. not (is_eq (pattern_cmp other p))) xs h

pub returns-clause-covering : goal.returns-clause-covering
returns-clause-covering c = any_covers-with
