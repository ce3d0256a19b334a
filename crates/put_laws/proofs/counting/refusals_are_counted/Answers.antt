use Rattle.put_laws.proofs.Counts.{all, taken, tells, told, unoffered}
use Rattle.put_laws.proofs.counting.refusals_are_counted.Goals as goal

pub returns-clause-unoffered : goal.returns-clause-unoffered
returns-clause-unoffered c = unoffered

pub returns-clause-taken : goal.returns-clause-taken
returns-clause-taken c = λ stored at table store gone shown accepts. taken stored at table store shown gone accepts

pub returns-clause-told : goal.returns-clause-told
returns-clause-told c = told

pub returns-clause-tells : goal.returns-clause-tells
returns-clause-tells c = tells

pub returns-clause-all : goal.returns-clause-all
returns-clause-all c = all
