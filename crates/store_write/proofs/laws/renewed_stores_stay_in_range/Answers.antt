use Rattle.std.proofs.Common.{refl}
use Rattle.store_write.specs.Renewed.{renewed_link}
use Rattle.store_write.proofs.RangesOn.{in_range}
use Rattle.store_write.proofs.laws.renewed_stores_stay_in_range.Goals as goal

pub returns : goal.returns
returns c = λ rule now row links swapped index used fresh low few some own range made.
    in_range rule now row index used low few some links (renewed_link row links fresh) swapped
    (λ i d lt. (own i d lt).1) range made refl
