use Rattle.std.proofs.Common.{◌≡◌, drop}
use Rattle.store_load.specs.Taking.{take_each}
use Rattle.store_load.proofs.claiming.take_links.Given as goal

abbrev pub invariant-loop-link : goal.invariant-loop-link
invariant-loop-link l = record {
  rest : take_each l.pool.free (drop l.link-index l.links) ≡ take_each l.initial.pool.free l.links;
  ready : l.pool.ready ≡ l.initial.pool.ready;
  wear : l.pool.wear ≡ l.initial.pool.wear;
}
