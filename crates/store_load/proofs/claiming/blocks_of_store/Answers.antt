use Rattle.store_load.proofs.Claims.{size_at}
use Rattle.store_load.proofs.claiming.blocks_of_store.Goals as goal

pub blocks_at-requires-clause-size : goal.blocks_at-requires-clause-size
blocks_at-requires-clause-size c =
    size_at c.args.directory.now.stores c.args.at c.row.result.now c.requires.kept c.requires.within c.row.ensures
