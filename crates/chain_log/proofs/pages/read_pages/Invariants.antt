use Rattle.std.proofs.Common.{◌≡◌, ◌+◌, ◌*◌, take}
use Rattle.board.specs.Counts.{RoseBy}
use Rattle.board.specs.Meaning.{TellsFlash}
use Rattle.board.specs.Reads.{ReadsOnly}
use Rattle.commit_gate.specs.Entries.{octets_from}
use Rattle.chain_log.proofs.pages.read_pages.Given as goal

abbrev pub invariant-loop-i : goal.invariant-loop-i
invariant-loop-i g l =
    let means = g.B.Board.means in
    let old = l.fn.board in
    record {
      read : TellsFlash means old → take (256 * l.i) l.buf
          ≡ octets_from (means.flash old).content (256 * l.block + l.first) l.i;
      reads : ReadsOnly means l.i old l.board;
      counted : RoseBy l.i (means.counts old).reads (means.counts l.board).reads;
      no_fault : (means.counts l.board).flash_faults ≡ (means.counts old).flash_faults;
    }
