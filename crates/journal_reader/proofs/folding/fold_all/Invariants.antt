use Rattle.std.proofs.Common.{◌≡◌, ◌≤◌, ◌*◌, ◌-◌, length}
use Rattle.board.specs.Meaning.{TellsFlash}
use Rattle.board.specs.Reads.{ReadsOnly}
use Rattle.commit_gate.specs.Entries.{area_of}
use Rattle.journal_reader.specs.Steps.{folded_from}
use Rattle.journal_reader.proofs.folding.fold_all.Given as goal

abbrev pub invariant-loop-next : goal.invariant-loop-next
invariant-loop-next g l = record {
  later : l.start ≤ l.at;
  within : l.at ≤ 512;
  room : 5120 ≤ length l.buf;
  rest : TellsFlash g.B.Board.means l.initial.board
      → folded_from (area_of (256 * l.area.first) (g.B.Board.means.flash l.initial.board).content) l.at l.directory.directory
      ≡ folded_from (area_of (256 * l.area.first) (g.B.Board.means.flash l.initial.board).content) l.start l.initial.directory.directory;
  reads : ReadsOnly g.B.Board.means (l.at - l.start) l.initial.board l.board;
  no_fault : (g.B.Board.means.counts l.board).flash_faults ≡ (g.B.Board.means.counts l.initial.board).flash_faults;
}

abbrev pub decreases-loop-next : goal.decreases-loop-next
decreases-loop-next g l = 512 - l.at
