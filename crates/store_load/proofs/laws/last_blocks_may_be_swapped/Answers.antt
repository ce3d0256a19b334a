use Rattle.std.proofs.Common.{[], refl}
use Rattle.store_load.proofs.Blocks.{swapped_alone}
use Rattle.store_load.proofs.Going.{block_swapped}
use Rattle.store_load.proofs.laws.last_blocks_may_be_swapped.Goals as goal

pub returns-clause-only : goal.returns-clause-only
returns-clause-only c = λ rule blocks image now row link new records keeps same spelled.
    swapped_alone rule blocks image now row link [] records keeps refl new same spelled

pub returns-clause-behind : goal.returns-clause-behind
returns-clause-behind c = block_swapped
