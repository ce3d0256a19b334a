use Rattle.store_write.proofs.Shared.{swapped_named}
use Rattle.store_write.proofs.laws.renewed_blocks_take_the_place_of_old_ones.Goals as goal

pub returns : goal.returns
returns c = λ least blocks stores s link links new swapped share found same made is.
    swapped_named least blocks stores s link links new swapped share found same made is
