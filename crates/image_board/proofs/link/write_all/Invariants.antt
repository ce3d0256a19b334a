use Rattle.image_board.proofs.Writing.{HasWritten}
use Rattle.image_board.proofs.link.write_all.Given as goal

abbrev pub invariant-loop : goal.invariant-loop
invariant-loop g l =
    HasWritten (g.W.Write.contents l.fn.out) (g.W.Write.contents l.out) l.fn.bytes l.rest
