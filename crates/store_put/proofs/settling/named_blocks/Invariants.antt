use Rattle.std.proofs.Common.{◌≡◌, ℕ, ◌<◌, true, get_or, take}
use Rattle.store_load.specs.Claims.{all_links}
use Rattle.store_put.specs.Pools.{is_named}
use Rattle.store_put.proofs.settling.named_blocks.Given as goal

abbrev pub invariant-loop-at : goal.invariant-loop-at
invariant-loop-at l = (block : ℕ) → block < 512 → get_or l.named block true ≡ is_named block (all_links (take l.at l.directory.stores))
