use Rattle.request_laws.proofs.Ends.{ends}
use Rattle.request_laws.proofs.Stepping.{all_of}
use Rattle.request_laws.proofs.ending.requests_end.Goals as goal

pub returns-clause-ended : goal.returns-clause-ended
returns-clause-ended c = ends

pub returns-clause-all : goal.returns-clause-all
returns-clause-all c = all_of
