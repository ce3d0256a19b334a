use Rattle.retrieval.proofs.Granted.{nothing_if, sent}
use Rattle.retrieval.proofs.laws.picks_are_granted.Goals as goal

pub returns-clause-none : goal.returns-clause-none
returns-clause-none c = nothing_if

pub returns-clause-some : goal.returns-clause-some
returns-clause-some c = λ number table stores pick row are picked here. sent number table stores are pick row picked here
