use Rattle.std.proofs.Common.{refl}
use Rattle.board.specs.Flash.{pages_of_block}
use Rattle.board.specs.Touches.{no_page}
use Rattle.board.proofs.Touching.{touches_on}
use Rattle.chain_log.proofs.tail.Tail.begin.Goals as goal

pub returns-in_err-barrier-clause-touches : goal.returns-in_err-barrier-clause-touches
returns-in_err-barrier-clause-touches g c =
    touches_on g.B.Board.means (pages_of_block c.args.block) no_page c.args.board.now
    c.erase.new.self c.barrier.new.self (λ p out. refl) c.erase.ensures.touches
    c.barrier.ensures.touches

pub returns-clause-touches : goal.returns-clause-touches
returns-clause-touches g c =
    touches_on g.B.Board.means (pages_of_block c.args.block) no_page c.args.board.now
    c.erase.new.self c.barrier.new.self (λ p out. refl) c.erase.ensures.touches
    c.barrier.ensures.touches
