use Rattle.std.proofs.Common.{◌≡◌, ◌≤◌, ◌+◌, ◌*◌}
use Rattle.board.specs.Counts.{RoseBy}
use Rattle.board.specs.Flash.{pages_from}
use Rattle.board.specs.Meaning.{TellsFlash}
use Rattle.board.specs.Touches.{SameElsewhere, Touches}
use Rattle.chain_log.specs.Pages.{with_pages}
use Rattle.chain_log.proofs.pages.write_pages.Given as goal

abbrev pub invariant-loop-i : goal.invariant-loop-i
invariant-loop-i g l =
    let first = 256 * l.block + l.first in
    let these = pages_from first l.pages in
    let means = g.B.Board.means in
    let old = l.fn.board in
    record {
      flash : TellsFlash means old → means.flash l.board
          ≡ with_pages first l.i l.octets (means.flash old);
      others : TellsFlash means old → SameElsewhere these (means.flash old) (means.flash l.board);
      seen : 1 ≤ l.i → TellsFlash means old
          → means.images l.board (means.moment l.board) (means.flash l.board).content;
      touches : Touches means these l.i 0 0 old l.board;
      programs : RoseBy l.i (means.counts old).programs (means.counts l.board).programs;
      no_fault : (means.counts l.board).flash_faults ≡ (means.counts old).flash_faults;
    }
