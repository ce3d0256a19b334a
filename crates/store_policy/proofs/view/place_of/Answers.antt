use Rattle.store_policy.proofs.Lookups.{looked-up}
use Rattle.store_policy.proofs.view.place_of.Goals as goal

pub returns-clause-found : goal.returns-clause-found
returns-clause-found c =
    rw c.ok_or.ensures.value (looked-up c.args.view.now c.args.identifier c.find.result c.find.ensures.place).0

pub returns-clause-unknown : goal.returns-clause-unknown
returns-clause-unknown c =
    rw c.ok_or.ensures.value (looked-up c.args.view.now c.args.identifier c.find.result c.find.ensures.place).1
