use Rattle.std.proofs.Common.{◌≡◌, ◌+◌, ◌*◌, ◌≤◌, drop}
use Rattle.store_load.specs.Claims.{reserved_at}
use Rattle.store_load.proofs.claiming.reserved_at.Given as goal

abbrev pub invariant-loop-at : goal.invariant-loop-at
invariant-loop-at l = record {
  so_far : l.sum + reserved_at l.least (drop l.at l.directory.stores) ≡ reserved_at l.least l.directory.stores;
  most : l.sum ≤ 100003 * l.at;
}
