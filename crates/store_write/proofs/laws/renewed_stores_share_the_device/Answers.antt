use Rattle.store_write.proofs.Shared.{swapped_share}
use Rattle.store_write.proofs.laws.renewed_stores_share_the_device.Goals as goal

pub returns : goal.returns
returns c = λ least blocks stores s new swapped share found made own is.
    swapped_share least blocks stores s new swapped share found made own is
