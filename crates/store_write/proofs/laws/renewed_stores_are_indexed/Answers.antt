use Rattle.store_write.proofs.Lying.{renewed_indexed}
use Rattle.store_write.proofs.laws.renewed_stores_are_indexed.Goals as goal

pub returns : goal.returns
returns c = λ rule blocks image now row links swapped records index fresh keeps is spells made.
    renewed_indexed rule blocks image now row links swapped records index fresh keeps is spells made
