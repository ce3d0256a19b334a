use Rattle.store_put.proofs.OwnBlocks.{own_of_shared}
use Rattle.store_put.proofs.staying.stores_have_blocks_of_their_own.Goals as goal

pub returns : goal.returns
returns c = own_of_shared
