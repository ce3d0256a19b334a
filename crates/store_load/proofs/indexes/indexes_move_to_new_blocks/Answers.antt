use Rattle.store_load.proofs.SwappedIndexes.{alone_indexed, alone_used, swapped_indexed, swapped_used}
use Rattle.store_load.proofs.indexes.indexes_move_to_new_blocks.Goals as goal

pub returns-clause-only : goal.returns-clause-only
returns-clause-only c = alone_indexed

pub returns-clause-only_used : goal.returns-clause-only_used
returns-clause-only_used c = alone_used

pub returns-clause-behind : goal.returns-clause-behind
returns-clause-behind c = λ rule blocks image now row link next links records index new swapped keeps is made same_first same.
    swapped_indexed rule blocks image now row link next links records index keeps is new swapped made same_first same

pub returns-clause-behind_used : goal.returns-clause-behind_used
returns-clause-behind_used c = λ rule blocks image now row link next links records index new swapped keeps is made same.
    swapped_used rule blocks image now row link next links records index keeps is new swapped made same
