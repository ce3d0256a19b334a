use Rattle.store_write.proofs.Lying.{elsewhere, in_place}
use Rattle.store_write.proofs.laws.last_records_lie_in_the_links.Goals as goal

pub returns-clause-places : goal.returns-clause-places
returns-clause-places c = λ rule blocks now row links index used short own range.
    in_place rule now row links index used range blocks short own

pub returns-clause-apart : goal.returns-clause-apart
returns-clause-apart c = λ rule now row links index used fresh new range.
    elsewhere rule now row links index used range fresh new
