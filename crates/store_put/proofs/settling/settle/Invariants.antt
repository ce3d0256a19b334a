use Rattle.std.proofs.Common.{◌≡◌, ℕ, ◌<◌, ◌≤◌, true, length}
use Rattle.block_pool.specs.Blocks.{is_free, is_ready}
use Rattle.store_put.specs.Pools.{is_unlinked}
use Rattle.store_put.proofs.settling.settle.Given as goal

abbrev pub invariant-loop-block : goal.invariant-loop-block
invariant-loop-block l = record {
  done : (block : ℕ) → block < l.block → is_free l.pool block ≡ is_unlinked (length l.fn.pool.wear) l.directory.stores block;
  rest : (block : ℕ) → l.block ≤ block → is_free l.pool block ≡ is_free l.fn.pool block;
  ready : (block : ℕ) → is_ready l.pool block ≡ true → is_ready l.fn.pool block ≡ true;
  given : (block : ℕ) → is_free l.pool block ≡ true → is_ready l.pool block ≡ true → is_free l.fn.pool block ≡ true;
  still_ready : (block : ℕ) → is_free l.fn.pool block ≡ true → is_ready l.pool block ≡ is_ready l.fn.pool block;
  wear : l.pool.wear ≡ l.fn.pool.wear;
  marks : length l.pool.free ≡ length l.fn.pool.free;
}
