use Rattle.request_laws.proofs.Walking.{asks}
use Rattle.request_laws.proofs.carrying.instructions_ask.Goals as goal

pub returns : goal.returns
returns c = λ blocks d table next items at changes before indexes item request walk there. asks blocks d table items at changes before indexes item walk there request next
