use Rattle.store_policy.proofs.Lookups.{patterns-at}
use Rattle.store_policy.proofs.view.patterns_of.Goals as goal

pub returns-clause-found : goal.returns-clause-found
returns-clause-found c =
    patterns-at c.args.view.now c.args.identifier c.in_ok-at.at c.patterns.result.now c.in_ok-at.ensures.found c.patterns.ensures
