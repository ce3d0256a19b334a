use Rattle.block_pool.specs.Least.{IsLeastSoFar}
use Rattle.block_pool.proofs.least.least_worn.Given as goal

abbrev pub invariant-loop-block : goal.invariant-loop-block
invariant-loop-block l = IsLeastSoFar l.free l.wear l.block l.least
