use Rattle.std.proofs.Common.{arith}
use Rattle.root_vote.specs.Rooted.{settled_pages}
use Rattle.board.proofs.Touching.{touches_most, touches_none}
use Rattle.root_vote.proofs.writing.settle.Goals as goal

pub returns-then-is_vote-clause-touches : goal.returns-then-is_vote-clause-touches
returns-then-is_vote-clause-touches g c =
    let board = g.B.Board in
    let old = c.args.board.now in
    let these = settled_pages c.args.block c.args.vote c.args.to in
    touches_most board.means
    (touches_none board.means these old (λ image told left. g.met.B.Board.images_now old image told left)) (omega arith) (omega arith) (omega arith)
