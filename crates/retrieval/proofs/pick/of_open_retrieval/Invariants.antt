use Rattle.retrieval.specs.Picks.{has_ahead, open_pick}
use Rattle.retrieval.proofs.FirstPicks.{IsFrom}
use Rattle.retrieval.proofs.pick.of_open_retrieval.Given as goal

abbrev pub invariant-loop-at : goal.invariant-loop-at
invariant-loop-at l = IsFrom has_ahead open_pick l.directory.stores l.at
