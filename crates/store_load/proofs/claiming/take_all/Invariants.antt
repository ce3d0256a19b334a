use Rattle.std.proofs.Common.{◌≡◌, drop}
use Rattle.store_load.specs.Claims.{all_links}
use Rattle.store_load.specs.Taking.{take_each}
use Rattle.store_load.proofs.claiming.take_all.Given as goal

abbrev pub invariant-loop-at : goal.invariant-loop-at
invariant-loop-at l = record {
  rest : take_each l.pool.free (all_links (drop l.at l.directory.stores)) ≡ take_each l.initial.pool.free (all_links l.directory.stores);
  ready : l.pool.ready ≡ l.initial.pool.ready;
  wear : l.pool.wear ≡ l.initial.pool.wear;
}
