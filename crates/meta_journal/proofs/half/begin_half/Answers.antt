use Rattle.std.proofs.Common.{◌+◌, ◌*◌, length, refl, arith}
use Rattle.board.specs.Touches.{Touches, no_page}
use Rattle.board.proofs.Touching as touching
use Rattle.commit_gate.specs.Commits.{text_pages}
use Rattle.commit_gate.specs.Entries.{payload_pages}
use Rattle.meta_journal.specs.Halves.{half_pages}
use Rattle.meta_journal.proofs.HalfPages.{text_within}
use Rattle.meta_journal.proofs.half.begin_half.Given.{Over}
use Rattle.meta_journal.proofs.half.begin_half.Goals as goal
use Rattle.meta_journal.proofs.half.begin_half.Goals.{After-barrier, After-write_text}

-- the pages and the work up to each call
two : (g : Over) (c : After-write_text g)
    → Touches g.B.Board.means (half_pages (256 * c.args.area.first)) (payload_pages (length c.args.checkpoint.now)) 2 1 c.args.board.now c.write_text.new.board
two g c =
    let base = 256 * c.args.area.first in
    let text = c.args.checkpoint.now in
    touching.touches_most g.B.Board.means (touching.touches_on g.B.Board.means (half_pages base) (text_pages base 0 text) c.args.board.now c.erase_half.new.board c.write_text.new.board
    (text_within base (base + 0) (payload_pages (length text)) (omega arith) (omega (arith, c.requires.longest))) c.erase_half.ensures.touches c.write_text.ensures.touches)
    (omega arith) (omega arith) (omega arith)

three : (g : Over) (c : After-barrier g)
    → Touches g.B.Board.means (half_pages (256 * c.args.area.first)) (payload_pages (length c.args.checkpoint.now)) 2 1 c.args.board.now c.write_text.new.board
    → Touches g.B.Board.means (half_pages (256 * c.args.area.first)) (payload_pages (length c.args.checkpoint.now)) 2 2 c.args.board.now c.barrier.new.self
three g c before =
    touching.touches_most g.B.Board.means
    (touching.touches_on g.B.Board.means (half_pages (256 * c.args.area.first)) no_page c.args.board.now c.write_text.new.board c.barrier.new.self
    (λ p out. refl) before c.barrier.ensures.touches) (omega arith) (omega arith) (omega arith)

pub returns-in_err-write_text-clause-touches : goal.returns-in_err-write_text-clause-touches
returns-in_err-write_text-clause-touches g c =
    let at = goal.at.returns-in_err-write_text-clause-touches g c in
    touching.touches_most g.B.Board.means (two g at.After-write_text) (omega arith) (omega arith) (omega arith)

pub returns-in_err-barrier-clause-touches : goal.returns-in_err-barrier-clause-touches
returns-in_err-barrier-clause-touches g c =
    let at = goal.at.returns-in_err-barrier-clause-touches g c in
    three g at.After-barrier (two g at.After-write_text)

pub returns-clause-touches : goal.returns-clause-touches
returns-clause-touches g c =
    let at = goal.at.returns-clause-touches g c in
    three g at.After-barrier (two g at.After-write_text)
