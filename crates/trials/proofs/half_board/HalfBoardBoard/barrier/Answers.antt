use Rattle.std.proofs.Common.{refl}
use Rattle.trials.proofs.Steps.{touches_step}
use Rattle.trials.proofs.half_board.HalfBoardBoard.barrier.Goals as goal

pub returns-clause-touches : goal.returns-clause-touches
returns-clause-touches c = touches_step c.args.self.now _ refl c.barrier.ensures.touches
