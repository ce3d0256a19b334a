use Rattle.board.proofs.Reading.{stays_none}
use Rattle.muted_board.proofs.muted_board.MutedBoardBoard.send.Goals as goal

pub returns-clause-stays : goal.returns-clause-stays
returns-clause-stays g c told =
    let board = c.args.self.now.board.now in
    let stays = stays_none g.B.Board.means board (λ image left. g.met.B.Board.images_now board image told left) in
    record {
      flash = stays.flash;
      seen = stays.seen;
      leaves = record {
        later = stays.leaves.later;
        each = stays.leaves.each;
        past = stays.leaves.past;
        kept = stays.leaves.kept;
      };
    }
