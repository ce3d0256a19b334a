use Rattle.std.proofs.Common.{refl}
use Rattle.trials.proofs.Steps.{reads_step}
use Rattle.trials.proofs.half_board.HalfBoardBoard.read_page.Goals as goal

pub returns-clause-reads : goal.returns-clause-reads
returns-clause-reads c = reads_step c.args.self.now _ refl c.read_page.ensures.reads
