use Rattle.std.proofs.Common.{◌+◌, ◌*◌, refl, arith}
use Rattle.board.specs.Flash.{pages_of_block}
use Rattle.board.specs.Touches.{Touches, no_page}
use Rattle.board.proofs.Touching as touching
use Rattle.meta_journal.specs.Halves.{half_pages}
use Rattle.meta_journal.proofs.HalfPages.{block_within}
use Rattle.meta_journal.proofs.half.erase_half.Given.{Over}
use Rattle.meta_journal.proofs.half.erase_half.Goals as goal
use Rattle.meta_journal.proofs.half.erase_half.Goals.{After-barrier, After-erase-2}

-- the pages and the work up to each call
two : (g : Over) (c : After-erase-2 g) → Touches g.B.Board.means (half_pages (256 * c.args.area.first)) 0 2 0 c.args.board.now c.erase-2.new.self
two g c =
    let means = g.B.Board.means in
    let old = c.args.board.now in
    let block = c.args.area.first in
    let these = half_pages (256 * block) in
    let a = c.erase.new.self in
    touching.touches_on means these (pages_of_block (block + 1)) old a c.erase-2.new.self (block_within (block + 1) (256 * block) (omega arith) (omega arith))
    (touching.touches_more means these (pages_of_block block) old a (block_within block (256 * block) (omega arith) (omega arith)) c.erase.ensures.touches)
    c.erase-2.ensures.touches

three : (g : Over) (c : After-barrier g) → Touches g.B.Board.means (half_pages (256 * c.args.area.first)) 0 2 0 c.args.board.now c.erase-2.new.self
    → Touches g.B.Board.means (half_pages (256 * c.args.area.first)) 0 2 1 c.args.board.now c.barrier.new.self
three g c before = touching.touches_on g.B.Board.means (half_pages (256 * c.args.area.first)) no_page c.args.board.now c.erase-2.new.self c.barrier.new.self
    (λ p out. refl) before c.barrier.ensures.touches

pub returns-in_err-erase-2-clause-touches : goal.returns-in_err-erase-2-clause-touches
returns-in_err-erase-2-clause-touches g c =
    let at = goal.at.returns-in_err-erase-2-clause-touches g c in
    touching.touches_most g.B.Board.means (two g at.After-erase-2) (omega arith) (omega arith) (omega arith)

pub returns-clause-touches : goal.returns-clause-touches
returns-clause-touches g c =
    let at = goal.at.returns-clause-touches g c in
    three g at.After-barrier (two g at.After-erase-2)
