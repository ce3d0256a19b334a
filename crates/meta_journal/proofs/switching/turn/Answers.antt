use Rattle.std.proofs.Common.{◌≡◌, ℕ, ◌*◌, [], Some, length, refl, sym, ◌∙◌, ap, subst}
use Rattle.board.specs.Device.{Device}
use Rattle.board.specs.Flash.{Flash, IsImage, loosened}
use Rattle.board.specs.Meaning.{TellsFlash}
use Rattle.board.specs.Moments.{LeavesOnly}
use Rattle.board.proofs.Stops.{goes_on, weaker}
use Rattle.board.proofs.Works.{tells_too}
use Rattle.root_vote.specs.declared.root.Root.{Root}
use Rattle.root_vote.specs.Rooted.{IsBetween, Rooted, SpellRoot, with_roots}
use Rattle.store_directory.specs.Directory.{Directory}
use Rattle.meta_journal.specs.Directories.{directory_by}
use Rattle.commit_gate.specs.Entries.{payload_pages}
use Rattle.meta_journal.specs.Halves.{half_base, half_block, half_of, half_pages, with_checkpoint}
use Rattle.meta_journal.specs.Journals.{FirmJournal, Holds, IsJournal, next_of}
use Rattle.meta_journal.specs.Standing.{StandsFor, switched}
use Rattle.meta_journal.proofs.Switched.{filling_holds, turning_holds}
use Rattle.meta_journal.proofs.Written.{filled_rooted, is_journal, switched_stands}
use Rattle.meta_journal.proofs.switching.turn.Given.{Over}
use Rattle.meta_journal.proofs.switching.turn.Goals as goal
use Rattle.meta_journal.proofs.switching.turn.Goals.{After-advance, After-begin_half}

-- while the half is begun
begun : (g : Over) (c : After-begin_half g) → TellsFlash g.B.Board.means c.args.board.now → SpellRoot c.args.root (g.B.Board.means.flash c.args.board.now).content
    → FirmJournal (g.B.Board.means.flash c.args.board.now) → (d : Directory) → Holds (g.B.Board.means.device c.args.board.now).blocks d (g.B.Board.means.flash c.args.board.now).content
    → directory_by (g.B.Board.means.device c.args.board.now).blocks c.args.checkpoint.now [] ≡ Some d
    → LeavesOnly g.B.Board.means c.args.board.now c.begin_half.new.board (Holds (g.B.Board.means.device c.args.board.now).blocks d)
begun g c told spelled still d held spells =
    let means = g.B.Board.means in
    let old = c.args.board.now in
    let blocks = (means.device old).blocks in
    let to = next_of c.args.root in
    let first_is : c.half_of.result.first ≡ half_block (half_of to) = c.half_of.ensures ∙ ap (λ (r : Root). half_block (half_of r)) c.next_root-to.ensures in
    weaker means old c.begin_half.new.board (Holds blocks d) (IsImage blocks (loosened (half_pages (half_base (half_of to))) (means.flash old)))
    (subst (λ (block : ℕ). LeavesOnly means old c.begin_half.new.board (IsImage blocks (loosened (half_pages (256 * block)) (means.flash old)))) first_is (c.begin_half.ensures.touches.leaves told))
    (filling_holds blocks (means.flash old) d (g.met.B.Board.enough_blocks old) still held c.args.root c.args.checkpoint.now c.requires.shortest c.requires.longest spelled spells)

-- and then the roots are rewritten
turned : (g : Over) (c : After-advance g) → TellsFlash g.B.Board.means c.args.board.now → SpellRoot c.args.root (g.B.Board.means.flash c.args.board.now).content
    → FirmJournal (g.B.Board.means.flash c.args.board.now) → (d : Directory) → Holds (g.B.Board.means.device c.args.board.now).blocks d (g.B.Board.means.flash c.args.board.now).content
    → directory_by (g.B.Board.means.device c.args.board.now).blocks c.args.checkpoint.now [] ≡ Some d
    → LeavesOnly g.B.Board.means c.args.board.now c.begin_half.new.board (Holds (g.B.Board.means.device c.args.board.now).blocks d)
    → LeavesOnly g.B.Board.means c.args.board.now c.advance.new.board (Holds (g.B.Board.means.device c.args.board.now).blocks d)
turned g c told spelled still d held spells before =
    let means = g.B.Board.means in
    let old = c.args.board.now in
    let blocks = (means.device old).blocks in
    let root = c.args.root in
    let text = c.args.checkpoint.now in
    let to = next_of root in
    let a = c.begin_half.new.board in
    let b = c.advance.new.board in
    let same_a = c.begin_half.ensures.touches.same in
    let filled = with_checkpoint (half_block (half_of to)) text (means.flash old) in
    let first_is : c.half_of.result.first ≡ half_block (half_of to) = c.half_of.ensures ∙ ap (λ (r : Root). half_block (half_of r)) c.next_root-to.ensures in
    let is_a : means.flash a ≡ filled = subst (λ (block : ℕ). means.flash a ≡ with_checkpoint block text (means.flash old)) first_is (c.in_ok-begin_half.ensures.flash told) in
    let rooted : Rooted root (means.flash a) = subst (Rooted root) (sym is_a) (filled_rooted (half_of to) root text (means.flash old) c.requires.shortest c.requires.longest spelled) in
    let run = subst (λ (r : Root). LeavesOnly means a b (IsBetween (means.device a).blocks (means.flash a) r root)) c.next_root-to.ensures (c.advance.ensures.any_moment (tells_too same_a told) root rooted) in
    goes_on means old a b (Holds blocks d) (IsBetween (means.device a).blocks (means.flash a) to root) before run
    (λ image left. turning_holds blocks (means.flash old) d (g.met.B.Board.enough_blocks old) still held root text c.requires.shortest c.requires.longest spelled spells image
    (subst (λ (f : Flash). IsBetween blocks f to root image) is_a (subst (λ (v : Device). IsBetween v.blocks (means.flash a) to root image) same_a left)))

pub returns-in_err-begin_half-clause-any_moment : goal.returns-in_err-begin_half-clause-any_moment
returns-in_err-begin_half-clause-any_moment g c = begun g (goal.at.returns-in_err-begin_half-clause-any_moment g c).After-begin_half

pub returns-in_err-advance-clause-any_moment : goal.returns-in_err-advance-clause-any_moment
returns-in_err-advance-clause-any_moment g c told spelled still d held spells =
    let at = goal.at.returns-in_err-advance-clause-any_moment g c in
    turned g at.After-advance told spelled still d held spells (begun g at.After-begin_half told spelled still d held spells)

pub returns-clause-any_moment : goal.returns-clause-any_moment
returns-clause-any_moment g c told spelled still d held spells =
    let at = goal.at.returns-clause-any_moment g c in
    turned g at.After-advance told spelled still d held spells (begun g at.After-begin_half told spelled still d held spells)

-- the flash in the end
pub returns-clause-flash : goal.returns-clause-flash
returns-clause-flash g c told =
    let means = g.B.Board.means in
    let old = c.args.board.now in
    let text = c.args.checkpoint.now in
    let to = next_of c.args.root in
    let a = c.begin_half.new.board in
    let is_to = c.next_root-to.ensures in
    let first_is : c.half_of.result.first ≡ half_block (half_of to) = c.half_of.ensures ∙ ap (λ (r : Root). half_block (half_of r)) is_to in
    let is_a : means.flash a ≡ with_checkpoint (half_block (half_of to)) text (means.flash old) =
    subst (λ (block : ℕ). means.flash a ≡ with_checkpoint block text (means.flash old)) first_is (c.in_ok-begin_half.ensures.flash told) in
    subst (λ (r : Root). means.flash c.advance.new.board ≡ with_roots r (means.flash a)) is_to (c.in_ok-advance.ensures.flash (tells_too c.begin_half.ensures.touches.same told)) ∙ ap (with_roots to) is_a

pub returns-clause-stands : goal.returns-clause-stands
returns-clause-stands g c told =
    let means = g.B.Board.means in
    let root = c.args.root in
    let text = c.args.checkpoint.now in
    let to = next_of root in
    let is = returns-clause-flash g c told in
    let rooted : Rooted to (means.flash c.advance.new.board) = subst (λ (r : Root). Rooted r (means.flash c.advance.new.board)) c.next_root-to.ensures (c.in_ok-advance.ensures.rooted (tells_too c.begin_half.ensures.touches.same told)) in
    subst (StandsFor (switched (length text) root)) (sym is)
    (switched_stands to text (means.flash c.args.board.now) c.requires.shortest c.requires.longest root refl (subst (Rooted to) is rooted))

pub returns-clause-journal : goal.returns-clause-journal
returns-clause-journal g c told own d spells =
    let means = g.B.Board.means in
    let blocks = (means.device c.args.board.now).blocks in
    let text = c.args.checkpoint.now in
    let to = next_of c.args.root in
    let is = returns-clause-flash g c told in
    let rooted : Rooted to (means.flash c.advance.new.board) = subst (λ (r : Root). Rooted r (means.flash c.advance.new.board)) c.next_root-to.ensures (c.in_ok-advance.ensures.rooted (tells_too c.begin_half.ensures.touches.same told)) in
    subst (IsJournal blocks to d (payload_pages (length text))) (sym is)
    (is_journal to text (means.flash c.args.board.now) c.requires.shortest c.requires.longest blocks d own spells (subst (Rooted to) is rooted))
