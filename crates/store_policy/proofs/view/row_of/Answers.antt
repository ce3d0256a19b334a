use Rattle.store_policy.proofs.Lookups.{row-at}
use Rattle.store_policy.proofs.view.row_of.Goals as goal

pub returns-clause-found : goal.returns-clause-found
returns-clause-found c =
    row-at c.args.view.now c.args.identifier c.in_ok-at.at c.row.result.now c.in_ok-at.ensures.found c.row.ensures
