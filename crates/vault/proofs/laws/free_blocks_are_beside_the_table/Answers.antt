use Rattle.vault.proofs.FreeBlocks.{free_beside}
use Rattle.vault.proofs.laws.free_blocks_are_beside_the_table.Goals as goal

pub returns : goal.returns
returns c = free_beside
