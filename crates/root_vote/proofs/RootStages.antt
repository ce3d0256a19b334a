-- The moments of three root pages, page by page.
use Rattle.std.proofs.Common.{◌≡◌, inl, inr, ℕ, zero, suc, ◌*◌, ◌<◌, ◌≤◌, Bool, true, false, List, Some, refl, sym, ◌∙◌, ap, subst, arith}
use Rattle.std.proofs.lemmas.Bool.Decides.{nat_tests}
use Rattle.board.specs.Flash.{Flash, IsImage, firm, loosened, pages_of_block}
use Rattle.board.specs.Meaning.{BoardMeaning, TellsFlash}
use Rattle.board.specs.Moments.{LeavesOnly}
use Rattle.board.proofs.Pages.{elsewhere}
use Rattle.board.proofs.Stops.{weaker}
use Rattle.board.proofs.Works.{tells_too}
use Rattle.root_vote.specs.declared.root.Root.{Root}
use Rattle.root_vote.specs.Roots.{root_in, root_page}
use Rattle.root_vote.specs.Rooted.{FirmRoots, IsBetween, Rooted, SpellRoot, is_root_block, rewritten, with_roots}
use Rattle.board.specs.Touches.{Touches}
use Rattle.root_vote.proofs.Choices.{choice_first, choice_last, choice_middle}
use Rattle.root_vote.proofs.Rewriting.{leaves_on, rewritten_others}
use Rattle.board.proofs.Touching.{Within, image_since}

-- each root block is among them
pub root_block : (block : ℕ) → block < 3 → Within (pages_of_block block) is_root_block
root_block block lt p out = grind (arith, nat_tests)

-- a page that is neither loose nor among these is as it was
pub page_left : (blocks : ℕ) (these : ℕ → Bool) (flash : Flash) (image : ℕ → List ℕ) (p : ℕ) → p < 256 * blocks → these p ≡ false → flash.loose p ≡ false
    → IsImage blocks (loosened these flash) image → image p ≡ flash.content p
page_left blocks these flash image p within out firm is = is.firm_pages p within (elsewhere (these p) true (flash.loose p) out ∙ firm)

module _ (blocks : ℕ) (flash : Flash) (to was : Root) (enough : 3 ≤ blocks) (spelled : root_in (root_page to) ≡ Some to)
    (roots : SpellRoot was flash.content) (firm_roots : FirmRoots flash) where
  abbrev page : List ℕ
  page = root_page to

  -- outside of the root blocks nothing was written
  around : (block : ℕ) (mid : Flash) (image : ℕ → List ℕ) → block < 3 → ((p : ℕ) → is_root_block p ≡ false → flash.loose p ≡ false → mid.loose p ≡ false) → ((p : ℕ) → is_root_block p ≡ false → mid.content p ≡ flash.content p)
      → IsImage blocks (loosened (pages_of_block block) mid) image → IsImage blocks (loosened is_root_block flash) image
  around block mid image lt stays same is = image_since blocks is_root_block (pages_of_block block) flash mid image (root_block block lt) same stays is

  pub same_one : (p : ℕ) → is_root_block p ≡ false → (rewritten 0 page flash).content p ≡ flash.content p
  same_one p out = rewritten_others 0 page flash p (root_block 0 (omega arith) p out)

  pub same_two : (p : ℕ) → is_root_block p ≡ false → (rewritten 1 page (rewritten 0 page flash)).content p ≡ flash.content p
  same_two p out = rewritten_others 1 page (rewritten 0 page flash) p (root_block 1 (omega arith) p out) ∙ same_one p out

  pub between_first : (image : ℕ → List ℕ) → IsImage blocks (loosened (pages_of_block 0) flash) image → IsBetween blocks flash to was image
  between_first image is = record {
    choice = inr (inl (choice_first image was
        (ap root_in (page_left blocks (pages_of_block 0) flash image 256 (omega arith) refl (firm_roots 1 (omega arith)) is) ∙ roots 1 (omega arith))
        (ap root_in (page_left blocks (pages_of_block 0) flash image 512 (omega arith) refl (firm_roots 2 (omega arith)) is) ∙ roots 2 (omega arith))));
    elsewhere = around 0 flash image (omega arith) (λ p out was. was) (λ p out. refl) is;
  }

  pub between_second : (image : ℕ → List ℕ) → IsImage blocks (loosened (pages_of_block 1) (rewritten 0 page flash)) image → IsBetween blocks flash to was image
  between_second image is = record {
    choice = choice_middle image to was
        (ap root_in (page_left blocks (pages_of_block 1) (rewritten 0 page flash) image 0 (omega arith) refl refl is) ∙ spelled)
        (ap root_in (page_left blocks (pages_of_block 1) (rewritten 0 page flash) image 512 (omega arith) refl refl is) ∙ roots 2 (omega arith));
    elsewhere = around 1 (rewritten 0 page flash) image (omega arith) (λ p out was. refl) same_one is;
  }

  pub between_third : (image : ℕ → List ℕ) → IsImage blocks (loosened (pages_of_block 2) (rewritten 1 page (rewritten 0 page flash))) image → IsBetween blocks flash to was image
  between_third image is = record {
    choice = inl (choice_last image to
        (ap root_in (page_left blocks (pages_of_block 2) (rewritten 1 page (rewritten 0 page flash)) image 0 (omega arith) refl refl is) ∙ spelled)
        (ap root_in (page_left blocks (pages_of_block 2) (rewritten 1 page (rewritten 0 page flash)) image 256 (omega arith) refl refl is) ∙ spelled));
    elsewhere = around 2 (rewritten 1 page (rewritten 0 page flash)) image (omega arith) (λ p out was. refl) same_two is;
  }

-- the page that was made is read back
spelled_page : (to : Root) (made : List ℕ) → made ≡ root_page to → root_in made ≡ Some to → root_in (root_page to) ≡ Some to
spelled_page to made is read = ap root_in (sym is) ∙ read

-- the roots in the end
pub roots_written : (to : Root) (flash : Flash) → root_in (root_page to) ≡ Some to → SpellRoot to (with_roots to flash).content
roots_written to flash spelled zero lt = spelled
roots_written to flash spelled (suc zero) lt = spelled
roots_written to flash spelled (suc (suc zero)) lt = spelled
roots_written to flash spelled (suc (suc (suc k))) lt = absurd (omega arith)

pub roots_in_the_end : (to : Root) (old new : Flash) → root_in (root_page to) ≡ Some to → new ≡ with_roots to old → Rooted to new
roots_in_the_end to old new spelled is = subst (Rooted to) (sym is) (record { spelled = roots_written to old spelled; firm_roots = λ k lt. refl })

-- what a stop leaves while each page is rewritten, where the pages spelled one root
module _ {B : Type 0} (means : BoardMeaning B)
    (old : B) (told : TellsFlash means old) (to was : Root) (enough : 3 ≤ (means.device old).blocks)
    (made : List ℕ) (is_made : made ≡ root_page to) (read : root_in made ≡ Some to) (roots : Rooted was (means.flash old)) where
  abbrev Between : (ℕ → List ℕ) → Type 0
  Between = IsBetween (means.device old).blocks (means.flash old) to was

  abbrev Rewrites : ℕ → B → B → Type 0
  Rewrites block a b = Touches means (pages_of_block block) 1 1 2 a b

  abbrev IsRewritten : ℕ → B → B → Type 0
  IsRewritten block a b = TellsFlash means a → means.flash b ≡ rewritten block made (means.flash a)

  spelled : root_in (root_page to) ≡ Some to
  spelled = spelled_page to made is_made read

  first_flash : (a : B) → IsRewritten 0 old a → means.flash a ≡ rewritten 0 (root_page to) (means.flash old)
  first_flash a ok = ok told ∙ ap (λ (p : List ℕ). rewritten 0 p (means.flash old)) is_made

  second_flash : (a b : B) → Rewrites 0 old a → IsRewritten 0 old a → IsRewritten 1 a b
      → means.flash b ≡ rewritten 1 (root_page to) (rewritten 0 (root_page to) (means.flash old))
  second_flash a b run ok_a ok_b = ok_b (tells_too run.same told) ∙ ap (λ (p : List ℕ). rewritten 1 p (means.flash a)) is_made
      ∙ ap (rewritten 1 (root_page to)) (first_flash a ok_a)

  pub first_leaves : (a : B) → Rewrites 0 old a → LeavesOnly means old a Between
  first_leaves a run = weaker means old a Between (IsImage (means.device old).blocks (loosened (pages_of_block 0) (means.flash old))) (run.leaves told)
      (between_first (means.device old).blocks (means.flash old) to was enough spelled roots.spelled roots.firm_roots)

  pub second_leaves : (a b : B) → Rewrites 0 old a → IsRewritten 0 old a → Rewrites 1 a b → LeavesOnly means old b Between
  second_leaves a b run_a ok_a run_b = leaves_on means old a b Between (pages_of_block 1) (rewritten 0 (root_page to) (means.flash old))
      (first_leaves a run_a) run_a.same (first_flash a ok_a) (run_b.leaves (tells_too run_a.same told))
      (between_second (means.device old).blocks (means.flash old) to was enough spelled roots.spelled roots.firm_roots)

  pub third_leaves : (a b d : B) → Rewrites 0 old a → IsRewritten 0 old a → Rewrites 1 a b → IsRewritten 1 a b → Rewrites 2 b d
      → LeavesOnly means old d Between
  third_leaves a b d run_a ok_a run_b ok_b run_d = leaves_on means old b d Between (pages_of_block 2)
      (rewritten 1 (root_page to) (rewritten 0 (root_page to) (means.flash old)))
      (second_leaves a b run_a ok_a run_b) (run_b.same ∙ run_a.same) (second_flash a b run_a ok_a ok_b)
      (run_d.leaves (tells_too (run_b.same ∙ run_a.same) told))
      (between_third (means.device old).blocks (means.flash old) to was enough spelled roots.spelled roots.firm_roots)
