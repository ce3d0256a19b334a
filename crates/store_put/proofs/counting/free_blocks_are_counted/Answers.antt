use Rattle.store_put.proofs.FreeCount.{free_at_least, one_fewer}
use Rattle.store_put.proofs.counting.free_blocks_are_counted.Goals as goal

pub returns : goal.returns
returns c = record { least = free_at_least; fewer = one_fewer }
