use Rattle.std.proofs.Common.{arith}
use Rattle.board.specs.Flash.{pages_of_block}
use Rattle.board.specs.Meaning.{TellsFlash}
use Rattle.board.specs.Moments.{LeavesOnly}
use Rattle.board.specs.Touches.{Touches}
use Rattle.board.proofs.Touching as touching
use Rattle.root_vote.specs.declared.root.Root.{Root}
use Rattle.root_vote.specs.Rooted.{IsBetween, Rooted, is_root_block}
use Rattle.root_vote.proofs.RootStages as stages
use Rattle.root_vote.proofs.writing.advance.Given.{Over}
use Rattle.root_vote.proofs.writing.advance.Goals as goal
use Rattle.root_vote.proofs.writing.advance.Goals.{After-rewrite-3}

pub returns-in_err-rewrite-clause-any_moment : goal.returns-in_err-rewrite-clause-any_moment
returns-in_err-rewrite-clause-any_moment g c told was roots =
    stages.first_leaves g.B.Board.means c.args.board.now told c.args.to was (omega (arith, g.met.B.Board.enough_blocks c.args.board.now))
    c.root_page-page.result c.root_page-page.ensures.page c.root_page-page.ensures.read roots c.rewrite.new.board c.rewrite.ensures.touches

pub returns-in_err-rewrite-2-clause-any_moment : goal.returns-in_err-rewrite-2-clause-any_moment
returns-in_err-rewrite-2-clause-any_moment g c told was roots =
    stages.second_leaves g.B.Board.means c.args.board.now told c.args.to was (omega (arith, g.met.B.Board.enough_blocks c.args.board.now))
    c.root_page-page.result c.root_page-page.ensures.page c.root_page-page.ensures.read roots c.rewrite.new.board c.rewrite-2.new.board
    c.rewrite.ensures.touches c.in_ok-rewrite.ensures.flash c.rewrite-2.ensures.touches

-- what a stop leaves of three pages
left : (g : Over) (c : After-rewrite-3 g) → TellsFlash g.B.Board.means c.args.board.now → (was : Root) → Rooted was (g.B.Board.means.flash c.args.board.now)
    → LeavesOnly g.B.Board.means c.args.board.now c.rewrite-3.new.board
    (IsBetween (g.B.Board.means.device c.args.board.now).blocks (g.B.Board.means.flash c.args.board.now) c.args.to was)
left g c told was roots =
    stages.third_leaves g.B.Board.means c.args.board.now told c.args.to was (omega (arith, g.met.B.Board.enough_blocks c.args.board.now))
    c.root_page-page.result c.root_page-page.ensures.page c.root_page-page.ensures.read roots c.rewrite.new.board c.rewrite-2.new.board c.rewrite-3.new.board
    c.rewrite.ensures.touches c.in_ok-rewrite.ensures.flash c.rewrite-2.ensures.touches c.in_ok-rewrite-2.ensures.flash c.rewrite-3.ensures.touches

pub returns-in_err-rewrite-3-clause-any_moment : goal.returns-in_err-rewrite-3-clause-any_moment
returns-in_err-rewrite-3-clause-any_moment g c = left g (goal.at.returns-in_err-rewrite-3-clause-any_moment g c).After-rewrite-3

pub returns-clause-any_moment : goal.returns-clause-any_moment
returns-clause-any_moment g c = left g (goal.at.returns-clause-any_moment g c).After-rewrite-3

-- the pages and the work of three pages
three : (g : Over) (c : After-rewrite-3 g) → Touches g.B.Board.means is_root_block 3 3 6 c.args.board.now c.rewrite-3.new.board
three g c =
    let means = g.B.Board.means in
    let old = c.args.board.now in
    let one = touching.touches_more means is_root_block (pages_of_block 0) old c.rewrite.new.board (stages.root_block 0 (omega arith)) c.rewrite.ensures.touches in
    let two = touching.touches_on means is_root_block (pages_of_block 1) old c.rewrite.new.board c.rewrite-2.new.board (stages.root_block 1 (omega arith)) one c.rewrite-2.ensures.touches in
    touching.touches_on means is_root_block (pages_of_block 2) old c.rewrite-2.new.board c.rewrite-3.new.board (stages.root_block 2 (omega arith)) two c.rewrite-3.ensures.touches

pub returns-in_err-rewrite-3-clause-touches : goal.returns-in_err-rewrite-3-clause-touches
returns-in_err-rewrite-3-clause-touches g c = three g (goal.at.returns-in_err-rewrite-3-clause-touches g c).After-rewrite-3

pub returns-clause-touches : goal.returns-clause-touches
returns-clause-touches g c = three g (goal.at.returns-clause-touches g c).After-rewrite-3
