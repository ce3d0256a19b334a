use Rattle.std.proofs.Common.{arith}
use Rattle.board.proofs.Reading.{reads_most, reads_none}
use Rattle.journal_reader.proofs.opening.read_chosen.Goals as goal

pub returns-in_default-clause-reads : goal.returns-in_default-clause-reads
returns-in_default-clause-reads g c =
    let means = g.B.Board.means in
    let old = c.args.board.now in
    reads_most means old old (reads_none means old (λ image told left. g.met.B.Board.images_now old image told left)) (omega arith)
