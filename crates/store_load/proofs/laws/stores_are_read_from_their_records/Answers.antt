use Rattle.store_load.proofs.Frames.{kept_stays, pages_stay}
use Rattle.store_load.proofs.laws.stores_are_read_from_their_records.Goals as goal

pub returns-clause-kept : goal.returns-clause-kept
returns-clause-kept c = λ rule blocks image other now row links records content others own is same.
    kept_stays blocks image other content others row links own same rule now records is

pub returns-clause-pages : goal.returns-clause-pages
returns-clause-pages c = λ rule blocks image other now row links records content others own is same p.
    pages_stay blocks image other content others row links own same rule now records p is
