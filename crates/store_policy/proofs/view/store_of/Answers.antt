use Rattle.store_directory.proofs.Reserved.{reserved-one}
use Rattle.store_policy.proofs.Lookups.{pair-at}
use Rattle.store_policy.proofs.view.store_of.Goals as goal

pub returns-clause-found : goal.returns-clause-found
returns-clause-found c =
    pair-at c.args.view.now c.args.identifier c.in_ok-at.at c.row.result.now c.index_at.result.now c.in_ok-at.ensures.found c.row.ensures c.index_at.ensures

pub returns-clause-reserved : goal.returns-clause-reserved
returns-clause-reserved c = reserved-one c.args.view.now.directory.now.stores c.in_ok-at.at c.row.result.now c.in_ok-at.ensures.within c.row.ensures
