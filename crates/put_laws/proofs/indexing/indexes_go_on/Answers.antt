use Rattle.put_laws.proofs.Indexed.{more_indexed, refused_indexed, unoffered_indexed}
use Rattle.put_laws.proofs.indexing.indexes_go_on.Goals as goal

pub returns-clause-unoffered : goal.returns-clause-unoffered
returns-clause-unoffered c = unoffered_indexed

pub returns-clause-refused : goal.returns-clause-refused
returns-clause-refused c = refused_indexed

pub returns-clause-taken : goal.returns-clause-taken
returns-clause-taken c = λ stored at table indexes store index gone entry all shown here accepts is.
    more_indexed stored at table indexes store all shown index gone entry here accepts is
