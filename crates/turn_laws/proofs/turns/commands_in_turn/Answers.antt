use Rattle.turn_laws.proofs.Standing.{counts_between, counts_durable, counts_within}
use Rattle.turn_laws.proofs.turns.commands_in_turn.Goals as goal

pub returns-clause-between : goal.returns-clause-between
returns-clause-between c = counts_between

pub returns-clause-durable : goal.returns-clause-durable
returns-clause-durable c = counts_durable

pub returns-clause-within : goal.returns-clause-within
returns-clause-within c = counts_within
