use Rattle.store_write.proofs.RangesOn.{last_fits}
use Rattle.store_write.proofs.laws.last_records_fit_a_block.Goals as goal

pub returns : goal.returns
returns c = λ rule now row links index used range linked.
    last_fits rule now row index used links range linked
