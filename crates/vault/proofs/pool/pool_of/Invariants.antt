use Rattle.std.proofs.Common.{◌≡◌, length, take}
use Rattle.block_pool.specs.Blocks.{new_pool}
use Rattle.vault.proofs.pool.pool_of.Given as goal

abbrev pub invariant-loop-block : goal.invariant-loop-block
invariant-loop-block l = record {
  free : l.pool.free ≡ (new_pool (length l.wear)).free;
  ready : l.pool.ready ≡ (new_pool (length l.wear)).ready;
  wear : take l.block l.pool.wear ≡ take l.block l.wear;
  count : length l.pool.wear ≡ length l.wear;
}
