use Rattle.std.proofs.Common.{◌≡◌, ℕ, ◌<◌, ◌||◌, true, length, get_or, take}
use Rattle.store_put.specs.Pools.{is_named}
use Rattle.store_put.proofs.settling.mark_links.Given as goal

abbrev pub invariant-loop-link : goal.invariant-loop-link
invariant-loop-link l = (block : ℕ) → block < length l.named
    → get_or l.named block true ≡ (get_or l.fn.named block true || is_named block (take l.link-index l.links))
