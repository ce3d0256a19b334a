use Rattle.request_laws.proofs.Walking.{effects}
use Rattle.request_laws.proofs.carrying.instructions_take_effect.Goals as goal

pub returns : goal.returns
returns c = λ blocks d table next items at changes before indexes item change request walk begin there ok by.
    effects blocks d table items at changes before indexes item walk there request next ok begin change by
