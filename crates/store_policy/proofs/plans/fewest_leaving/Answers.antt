use Rattle.std.proofs.Common.{arith}
use Rattle.store_policy.proofs.Leaving.{none-before, one-gone}
use Rattle.store_policy.proofs.plans.fewest_leaving.Goals as goal

pub entries-preserved : goal.entries-preserved
entries-preserved c =
    let index = c.args.index.now in
    record {
      total = omega (arith, one-gone index.entries c.entries.count c.entry.result c.entry.ensures (omega arith), c.entries.invariant.total);
      before = none-before index c.args.need c.entries.count c.entries.invariant.before (omega (arith, c.entries.invariant.total));
    }
