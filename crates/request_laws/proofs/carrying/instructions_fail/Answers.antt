use Rattle.request_laws.proofs.Walking.{fails}
use Rattle.request_laws.proofs.carrying.instructions_fail.Goals as goal

pub returns : goal.returns
returns c = λ blocks d table items at changes before indexes item code walk there. fails blocks d table items at changes before indexes item walk there code
