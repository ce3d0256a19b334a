use Rattle.store_directory.proofs.InTurn.{lawful-in-turn}
use Rattle.store_directory.proofs.Lawful.{steps-fit}
use Rattle.store_directory.proofs.laws.directories_fit_in_turn.Goals as goal

pub returns-clause-fits : goal.returns-clause-fits
returns-clause-fits c = λ d kept. steps-fit d kept.stores

pub returns-clause-lawful : goal.returns-clause-lawful
returns-clause-lawful c = lawful-in-turn
