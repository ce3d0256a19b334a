use Rattle.store_load.proofs.Blocks.{begun}
use Rattle.store_load.proofs.Going.{block_followed}
use Rattle.store_load.proofs.laws.blocks_are_begun.Goals as goal

pub returns-clause-first : goal.returns-clause-first
returns-clause-first c = λ rule image later next link meaning first one same spelled low largest fits.
    begun rule image later next link meaning first one same spelled low largest fits

pub returns-clause-further : goal.returns-clause-further
returns-clause-further c = block_followed
