use Rattle.image_table.proofs.Puts.{block_linked, first_put}
use Rattle.image_table.proofs.changing.new_blocks_enter_the_directory.Goals as goal

pub returns-clause-first : goal.returns-clause-first
returns-clause-first c = first_put

pub returns-clause-further : goal.returns-clause-further
returns-clause-further c = block_linked
