use Rattle.request_laws.proofs.Stays.{index_kept, range_kept, used_kept}
use Rattle.request_laws.proofs.keeping.records_stay_in_place.Goals as goal

pub returns-clause-index : goal.returns-clause-index
returns-clause-index c = index_kept

pub returns-clause-used : goal.returns-clause-used
returns-clause-used c = used_kept

pub returns-clause-in_range : goal.returns-clause-in_range
returns-clause-in_range c = range_kept
