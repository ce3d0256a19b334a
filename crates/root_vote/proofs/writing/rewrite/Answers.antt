use Rattle.std.proofs.Common.{refl, ◌≡◌, ℕ, ◌+◌, ◌*◌, ◌∙◌, ap, subst, arith}
use Rattle.board.specs.Flash.{firm, only_page, pages_of_block, wiped, written}
use Rattle.board.specs.Touches.{Touches, no_page}
use Rattle.board.proofs.Works.{tells_too}
use Rattle.root_vote.proofs.Rewriting.{first_page}
use Rattle.board.proofs.Touching as touching
use Rattle.root_vote.proofs.writing.rewrite.Given.{Over}
use Rattle.root_vote.proofs.writing.rewrite.Goals as goal
use Rattle.root_vote.proofs.writing.rewrite.Goals.{After-barrier, After-barrier-2, After-program}

pub returns-clause-flash : goal.returns-clause-flash
returns-clause-flash g c told =
    let board = g.B.Board in
    let old = board.means.flash c.args.board.now in
    let these = pages_of_block c.args.block in
    let same_a = c.erase.ensures.touches.same in
    let same_b = c.barrier.ensures.touches.same ∙ same_a in
    let same_d = c.program.ensures.touches.same ∙ same_b in
    let place : 256 * c.args.block + 0 ≡ 256 * c.args.block = omega arith in
    let erased : board.means.flash c.erase.new.self ≡ wiped these old = c.in_ok-erase.ensures.ok told in
    let is_firm : board.means.flash c.barrier.new.self ≡ firm (wiped these old) = c.in_ok-barrier.ensures.ok (tells_too same_a told) ∙ ap firm erased in
    let programmed : board.means.flash c.program.new.self ≡ written (only_page (256 * c.args.block)) (λ _. c.args.page.now) (firm (wiped these old)) =
    subst (λ (p : ℕ). board.means.flash c.program.new.self ≡ written (only_page p) (λ _. c.args.page.now) (firm (wiped these old))) place
    (c.in_ok-program.ensures.ok (tells_too same_b told) ∙ ap (written (only_page (256 * c.args.block + 0)) (λ _. c.args.page.now)) is_firm) in
    c.in_ok-barrier-2.ensures.ok (tells_too same_d told) ∙ ap firm programmed

-- the pages and the work up to each call
erased : (g : Over) (c : After-barrier g) → Touches g.B.Board.means (pages_of_block c.args.block) 0 1 1 c.args.board.now c.barrier.new.self
erased g c = touching.touches_on g.B.Board.means (pages_of_block c.args.block) no_page c.args.board.now c.erase.new.self c.barrier.new.self
    (λ p out. refl) c.erase.ensures.touches c.barrier.ensures.touches

programmed : (g : Over) (c : After-program g) → Touches g.B.Board.means (pages_of_block c.args.block) 0 1 1 c.args.board.now c.barrier.new.self
    → Touches g.B.Board.means (pages_of_block c.args.block) 1 1 1 c.args.board.now c.program.new.self
programmed g c two = touching.touches_on g.B.Board.means (pages_of_block c.args.block) (only_page (256 * c.args.block + 0)) c.args.board.now
    c.barrier.new.self c.program.new.self (first_page c.args.block (256 * c.args.block + 0) (omega arith)) two c.program.ensures.touches

rewrites : (g : Over) (c : After-barrier-2 g) → Touches g.B.Board.means (pages_of_block c.args.block) 1 1 1 c.args.board.now c.program.new.self
    → Touches g.B.Board.means (pages_of_block c.args.block) 1 1 2 c.args.board.now c.barrier-2.new.self
rewrites g c three = touching.touches_on g.B.Board.means (pages_of_block c.args.block) no_page c.args.board.now c.program.new.self c.barrier-2.new.self
    (λ p out. refl) three c.barrier-2.ensures.touches

pub returns-in_err-barrier-clause-touches : goal.returns-in_err-barrier-clause-touches
returns-in_err-barrier-clause-touches g c =
    let at = goal.at.returns-in_err-barrier-clause-touches g c in
    touching.touches_most g.B.Board.means (erased g at.After-barrier) (omega arith) (omega arith) (omega arith)

pub returns-in_err-program-clause-touches : goal.returns-in_err-program-clause-touches
returns-in_err-program-clause-touches g c =
    let at = goal.at.returns-in_err-program-clause-touches g c in
    touching.touches_most g.B.Board.means (programmed g at.After-program (erased g at.After-barrier)) (omega arith) (omega arith) (omega arith)

pub returns-in_err-barrier-2-clause-touches : goal.returns-in_err-barrier-2-clause-touches
returns-in_err-barrier-2-clause-touches g c =
    let at = goal.at.returns-in_err-barrier-2-clause-touches g c in
    rewrites g at.After-barrier-2 (programmed g at.After-program (erased g at.After-barrier))

pub returns-clause-touches : goal.returns-clause-touches
returns-clause-touches g c =
    let at = goal.at.returns-clause-touches g c in
    rewrites g at.After-barrier-2 (programmed g at.After-program (erased g at.After-barrier))
