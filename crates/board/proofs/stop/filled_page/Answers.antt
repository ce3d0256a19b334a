use Rattle.board.specs.Stopped.{filled}
use Rattle.board.proofs.stop.filled_page.Goals as goal

pub returns-clause-same : goal.returns-clause-same
unfolding filled
returns-clause-same c = c.page_of.ensures.same
