use Rattle.std.proofs.Common.{◌≡◌, ◌-◌, ◌*◌, drop, take}
use Rattle.board.specs.Counts.{RoseBy}
use Rattle.board.specs.Meaning.{TellsFlash}
use Rattle.board.specs.Reads.{ReadsOnly}
use Rattle.commit_gate.specs.Entries.{area_of, octets_from}
use Rattle.commit_gate.proofs.text.read_rest.Given as goal

abbrev pub invariant-loop-i : goal.invariant-loop-i
invariant-loop-i g l =
    let means = g.B.Board.means in
    record {
      read : TellsFlash means l.fn.board → take (256 * l.i) l.buf
          ≡ octets_from (area_of (256 * l.area.first) (means.flash l.fn.board).content) l.first l.i;
      front : take 256 l.buf ≡ take 256 l.fn.buf;
      rest : drop (256 * l.pages) l.buf ≡ drop (256 * l.pages) l.fn.buf;
      no_fault : (means.counts l.board).flash_faults ≡ (means.counts l.fn.board).flash_faults;
      counted : RoseBy (l.i - 1) (means.counts l.fn.board).reads (means.counts l.board).reads;
      reads : ReadsOnly means (l.i - 1) l.fn.board l.board;
    }
