use Rattle.time_index.proofs.Entries.{in_order-back}
use Rattle.time_index.proofs.ring.Ring.runs.Goals as goal

pub returns-clause-back : goal.returns-clause-back
returns-clause-back c =
    in_order-back _ _ c.self.inside.entries.items c.as_slices.ensures c.self.invariant.3
