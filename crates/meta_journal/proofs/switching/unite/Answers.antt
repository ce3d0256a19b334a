use Rattle.std.proofs.Common.{◌≡◌, ◌*◌, Bool, false, refl, sym, ◌∙◌, ap, subst, arith}
use Rattle.std.specs.Prelude.{if◌then◌else◌}
use Rattle.board.specs.Device.{Device}
use Rattle.board.specs.Flash.{Flash, IsImage, firm, loosened}
use Rattle.board.specs.Meaning.{TellsFlash}
use Rattle.board.specs.Moments.{LeavesOnly}
use Rattle.board.specs.Touches.{Touches, no_page}
use Rattle.board.proofs.Stops.{goes_on, started, weaker}
use Rattle.board.proofs.Touching as touching
use Rattle.board.proofs.Works.{tells_too}
use Rattle.root_vote.specs.Roots.{AreVotes, choice_of_votes}
use Rattle.root_vote.specs.Rooted.{IsRepaired, is_root_block}
use Rattle.store_directory.specs.Directory.{Directory}
use Rattle.meta_journal.specs.Journals.{FirmJournal, Holds, repair_work}
use Rattle.meta_journal.specs.Standing.{repair_barriers}
use Rattle.meta_journal.proofs.Switched.{repair_holds, standing_holds, united_holds}
use Rattle.meta_journal.proofs.switching.unite.Given.{Over}
use Rattle.meta_journal.proofs.switching.unite.Goals as goal
use Rattle.meta_journal.proofs.switching.unite.Goals.{After-barrier, After-repair}

pub returns-then-are_all-clause-any_moment : goal.returns-then-are_all-clause-any_moment
returns-then-are_all-clause-any_moment g c told are still d held =
    let means = g.B.Board.means in
    let old = c.args.board.now in
    let blocks = (means.device old).blocks in
    started means old (Holds blocks d) (λ image left. standing_holds blocks (means.flash old) d (g.met.B.Board.enough_blocks old) still held image
    (g.met.B.Board.images_now old image told left))

pub returns-then-are_all-clause-touches : goal.returns-then-are_all-clause-touches
returns-then-are_all-clause-touches g c =
    let means = g.B.Board.means in
    let old = c.args.board.now in
    touching.touches_most means (touching.touches_none means is_root_block old (λ image told left. g.met.B.Board.images_now old image told left))
    (omega arith) (omega arith) (omega arith)

-- a barrier
settled : (g : Over) (c : After-barrier g) → TellsFlash g.B.Board.means c.args.board.now → FirmJournal (g.B.Board.means.flash c.args.board.now)
    → (d : Directory) → Holds (g.B.Board.means.device c.args.board.now).blocks d (g.B.Board.means.flash c.args.board.now).content
    → LeavesOnly g.B.Board.means c.args.board.now c.barrier.new.self (Holds (g.B.Board.means.device c.args.board.now).blocks d)
settled g c told still d held =
    let means = g.B.Board.means in
    let old = c.args.board.now in
    let blocks = (means.device old).blocks in
    weaker means old c.barrier.new.self (Holds blocks d) (IsImage blocks (loosened no_page (means.flash old))) (c.barrier.ensures.touches.leaves told)
    (standing_holds blocks (means.flash old) d (g.met.B.Board.enough_blocks old) still held)

-- and then a repair
repaired : (g : Over) (c : After-repair g) → TellsFlash g.B.Board.means c.args.board.now → AreVotes c.args.votes.now.votes (g.B.Board.means.flash c.args.board.now).content
    → FirmJournal (g.B.Board.means.flash c.args.board.now) → (d : Directory) → Holds (g.B.Board.means.device c.args.board.now).blocks d (g.B.Board.means.flash c.args.board.now).content
    → LeavesOnly g.B.Board.means c.args.board.now c.barrier.new.self (Holds (g.B.Board.means.device c.args.board.now).blocks d)
    → LeavesOnly g.B.Board.means c.args.board.now c.repair.new.board (Holds (g.B.Board.means.device c.args.board.now).blocks d)
repaired g c told are still d held before =
    let means = g.B.Board.means in
    let old = c.args.board.now in
    let blocks = (means.device old).blocks in
    let votes = c.args.votes.now.votes in
    let a = c.barrier.new.self in
    let b = c.repair.new.board in
    let same_a = c.barrier.ensures.touches.same in
    let is_a : means.flash a ≡ firm (means.flash old) = c.in_ok-barrier.ensures.ok told in
    let run = c.repair.ensures.any_moment (tells_too same_a told) (subst (λ (f : Flash). AreVotes votes f.content) (sym is_a) are) (λ k lt. ap (λ (f : Flash). f.loose (256 * k)) is_a) in
    goes_on means old a b (Holds blocks d) (IsRepaired (means.device a).blocks (means.flash a) (choice_of_votes votes)) before run
    (λ image left. repair_holds blocks (means.flash old) d (g.met.B.Board.enough_blocks old) still held votes are image
    (subst (λ (f : Flash). IsRepaired blocks f (choice_of_votes votes) image) is_a (subst (λ (v : Device). IsRepaired v.blocks (means.flash a) (choice_of_votes votes) image) same_a left)))

pub returns-in_err-barrier-clause-any_moment : goal.returns-in_err-barrier-clause-any_moment
returns-in_err-barrier-clause-any_moment g c told are still d held = settled g (goal.at.returns-in_err-barrier-clause-any_moment g c).After-barrier told still d held

pub returns-in_err-repair-clause-any_moment : goal.returns-in_err-repair-clause-any_moment
returns-in_err-repair-clause-any_moment g c told are still d held =
    let at = goal.at.returns-in_err-repair-clause-any_moment g c in
    repaired g at.After-repair told are still d held (settled g at.After-barrier told still d held)

pub returns-clause-any_moment : goal.returns-clause-any_moment
returns-clause-any_moment g c told are still d held =
    let at = goal.at.returns-clause-any_moment g c in
    repaired g at.After-repair told are still d held (settled g at.After-barrier told still d held)

pub returns-clause-holds : goal.returns-clause-holds
returns-clause-holds g c told are still d held =
    let means = g.B.Board.means in
    let old = c.args.board.now in
    let blocks = (means.device old).blocks in
    let votes = c.args.votes.now.votes in
    let a = c.barrier.new.self in
    let told_a = tells_too c.barrier.ensures.touches.same told in
    let is_a : means.flash a ≡ firm (means.flash old) = c.in_ok-barrier.ensures.ok told in
    let rooted = c.in_ok-repair.ensures.rooted told_a (subst (λ (f : Flash). AreVotes votes f.content) (sym is_a) are) (λ k lt. ap (λ (f : Flash). f.loose (256 * k)) is_a) in
    united_holds blocks (means.flash old) d (g.met.B.Board.enough_blocks old) still held votes are c.args.root (means.flash c.repair.new.board).content c.requires.leads
    rooted.spelled (λ p out. (c.repair.ensures.touches.others told_a).content p out ∙ ap (λ (f : Flash). f.content p) is_a)

-- the work of a barrier and a repair
touched : (g : Over) (c : After-repair g) → Touches g.B.Board.means is_root_block 2 2 5 c.args.board.now c.repair.new.board
touched g c =
    let means = g.B.Board.means in
    let old = c.args.board.now in
    let a = c.barrier.new.self in
    touching.touches_on means is_root_block is_root_block old a c.repair.new.board (λ p out. out)
    (touching.touches_more means is_root_block no_page old a (λ p out. refl) c.barrier.ensures.touches) c.repair.ensures.touches

-- five barriers at most, and none where no page differs
most : (g : Over) (c : After-repair g) → c.are_all.result ≡ false → Touches g.B.Board.means is_root_block (repair_work c.args.votes.now.votes c.args.root)
    (repair_work c.args.votes.now.votes c.args.root) (repair_barriers c.args.votes.now.votes c.args.root) c.args.board.now c.repair.new.board
most g c differ =
    let work : repair_work c.args.votes.now.votes c.args.root ≡ 2 = ap (λ (t : Bool). if t then 0 else 2) (sym c.are_all.ensures ∙ differ) in
    let barriers : repair_barriers c.args.votes.now.votes c.args.root ≡ 5 = ap (λ (t : Bool). if t then 0 else 5) (sym c.are_all.ensures ∙ differ) in
    touching.touches_most g.B.Board.means (touched g c) (omega (arith, work)) (omega (arith, work)) (omega (arith, barriers))

pub returns-in_err-repair-clause-touches : goal.returns-in_err-repair-clause-touches
returns-in_err-repair-clause-touches g c = most g (goal.at.returns-in_err-repair-clause-touches g c).After-repair c.if-are_all.false
