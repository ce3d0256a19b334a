use Rattle.retrieval.specs.Picks.{has_range, range_pick}
use Rattle.retrieval.proofs.FirstPicks.{IsFrom}
use Rattle.retrieval.proofs.pick.of_ranges.Given as goal

abbrev pub invariant-loop-at : goal.invariant-loop-at
invariant-loop-at l = IsFrom has_range range_pick l.directory.stores l.at
