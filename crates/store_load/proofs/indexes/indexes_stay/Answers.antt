use Rattle.store_load.proofs.StayingIndexes.{index_later, index_stays, same_index, used_stays}
use Rattle.store_load.proofs.indexes.indexes_stay.Goals as goal

pub returns-clause-beside : goal.returns-clause-beside
returns-clause-beside c = index_stays

pub returns-clause-used : goal.returns-clause-used
returns-clause-used c = used_stays

pub returns-clause-later : goal.returns-clause-later
returns-clause-later c = index_later

pub returns-clause-flags : goal.returns-clause-flags
returns-clause-flags c = same_index
