use Rattle.std.proofs.Common.{◌≡◌, ◌<◌, ℕ, Bool, List, Option, Some, None, count_by, length, arith, subst}
use Rattle.std.specs.Option.{unwrap_or}
use Rattle.block_pool.specs.Least.{IsLeast, IsLeastSoFar}
use Rattle.block_pool.proofs.Counts.{no_mark}
use Rattle.block_pool.proofs.least.least_worn.Goals as goal

-- what was found once all blocks were seen
least_found : (free : List Bool) (wear : List ℕ) (seen : ℕ) (found : Option ℕ)
    → seen ≡ length free → IsLeastSoFar free wear seen found
    → 0 < count_by (λ mark. mark) free
    → IsLeast free wear (length free) (unwrap_or found 0)
least_found free wear seen None all so_far some =
    let none = no_mark free (λ i lt. so_far i (omega arith)) in absurd (omega (arith, none, some))
least_found free wear seen (Some block) all so_far some =
    subst (λ (n : ℕ). IsLeast free wear n block) all so_far

pub returns-clause-least : goal.returns-clause-least
returns-clause-least c = rw c.unwrap_or.ensures
    (least_found c.args.free.now c.args.wear.now c.loop-block.block c.loop-block.least
    (omega arith) c.loop-block.invariant c.requires.some)
