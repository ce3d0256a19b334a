-- A block is erased and its first page programmed: barrier and barrier behind each.
use Rattle.std.proofs.Common.{◌≡◌, ℕ, ◌*◌, Bool, false, List, refl, ◌∙◌, subst, arith}
use Rattle.std.proofs.lemmas.Bool.Decides.{nat_tests}
use Rattle.std.specs.Prelude.{if◌then◌else◌}
use Rattle.board.specs.Device.{Device}
use Rattle.board.specs.Flash.{Flash, IsImage, blank, loosened, only_page, pages_of_block}
use Rattle.board.specs.Meaning.{BoardMeaning}
use Rattle.board.specs.Moments.{LeavesOnly}
use Rattle.board.proofs.Pages.{elsewhere}
use Rattle.board.proofs.Stops.{goes_on}
use Rattle.root_vote.specs.Rooted.{rewritten}
use Rattle.board.proofs.Touching.{Within}

-- a block's first page is one of its pages
pub first_page : (block page : ℕ) → page ≡ 256 * block → Within (only_page page) (pages_of_block block)
first_page block page is p out = grind (arith, nat_tests)

-- other pages hold what they held
pub rewritten_others : (block : ℕ) (page : List ℕ) (flash : Flash) (p : ℕ) → pages_of_block block p ≡ false → (rewritten block page flash).content p ≡ flash.content p
rewritten_others block page flash p out =
    elsewhere (only_page (256 * block) p) page (if pages_of_block block p then blank else flash.content p) (first_page block (256 * block) refl p out)
    ∙ elsewhere (pages_of_block block p) blank (flash.content p) out

-- what a stop leaves up to a board with this flash, and then in a call that touches these pages
pub leaves_on : {B : Type 0} (means : BoardMeaning B) (old a b : B) (P : (ℕ → List ℕ) → Type 0) (these : ℕ → Bool) (flash : Flash)
    → LeavesOnly means old a P → means.device a ≡ means.device old → means.flash a ≡ flash
    → LeavesOnly means a b (IsImage (means.device a).blocks (loosened these (means.flash a)))
    → ((image : ℕ → List ℕ) → IsImage (means.device old).blocks (loosened these flash) image → P image)
    → LeavesOnly means old b P
leaves_on means old a b P these flash before same is run holds =
    goes_on means old a b P (IsImage (means.device a).blocks (loosened these (means.flash a))) before run
    (λ image left. holds image
    (subst (λ (f : Flash). IsImage (means.device old).blocks (loosened these f) image) is
    (subst (λ (d : Device). IsImage d.blocks (loosened these (means.flash a)) image) same left)))
