use Rattle.image_table.proofs.Puts.{block_swapped}
use Rattle.image_table.proofs.changing.renewed_blocks_keep_the_table.Goals as goal

pub returns : goal.returns
returns c = block_swapped
