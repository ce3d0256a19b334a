use Rattle.std.proofs.Common.{◌≡◌, ◌≤◌, ◌+◌, ◌*◌, length}
use Rattle.board.specs.Counts.{RoseBy}
use Rattle.board.specs.Flash.{pages_from, written}
use Rattle.board.specs.Meaning.{TellsFlash}
use Rattle.board.specs.Touches.{SameElsewhere, Touches}
use Rattle.commit_gate.specs.Entries.{payload_pages}
use Rattle.commit_gate.specs.Commits.{payload_at}
use Rattle.commit_gate.proofs.text.write_text.Given as goal

abbrev pub invariant-loop-index : goal.invariant-loop-index
invariant-loop-index g l =
    let first = 256 * l.area.first + l.first in
    let these = pages_from first (payload_pages (length l.text)) in
    let means = g.B.Board.means in
    let old = l.fn.board in
    record {
      flash : TellsFlash means old → means.flash l.board
          ≡ written (pages_from first l.index) (payload_at first l.text) (means.flash old);
      others : TellsFlash means old → SameElsewhere these (means.flash old) (means.flash l.board);
      seen : 1 ≤ l.index → TellsFlash means old
          → means.images l.board (means.moment l.board) (means.flash l.board).content;
      touches : Touches means these l.index 0 0 old l.board;
      programs : RoseBy l.index (means.counts old).programs (means.counts l.board).programs;
      no_fault : (means.counts l.board).flash_faults ≡ (means.counts old).flash_faults;
    }
