use Rattle.image_board.proofs.Writing.{more_written}
use Rattle.image_board.proofs.link.write_all.Goals as goal

pub loop-preserved : goal.loop-preserved
loop-preserved g c = more_written _ _ _ _ _ _ c.loop.invariant c.in_ok-count.ensures.ok
