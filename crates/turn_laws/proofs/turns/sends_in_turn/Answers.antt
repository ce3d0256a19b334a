use Rattle.turn_laws.proofs.Standing.{sends_between, sends_durable, sends_within}
use Rattle.turn_laws.proofs.turns.sends_in_turn.Goals as goal

pub returns-clause-between : goal.returns-clause-between
returns-clause-between c = sends_between

pub returns-clause-durable : goal.returns-clause-durable
returns-clause-durable c blocks table done others command before = sends_durable blocks table done command others before

pub returns-clause-within : goal.returns-clause-within
returns-clause-within c blocks table done others command before octets gains = sends_within blocks table done command others before octets gains
