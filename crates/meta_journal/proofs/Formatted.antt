-- The flash after a format.
use Rattle.std.proofs.Common.{◌≡◌, ℕ, zero, suc, ◌+◌, ◌*◌, ◌<◌, ◌≤◌, true, false, List, Some, length, refl, ◌∙◌, ap, arith, eq-eqb}
use Rattle.std.specs.Prelude.{if◌then◌else◌}
use Rattle.board.specs.Flash.{Flash, IsImage, only_page, pages_of_block}
use Rattle.board.proofs.Pages.{above_pages, elsewhere}
use Rattle.root_vote.specs.declared.root.Root.{Root}
use Rattle.root_vote.specs.Roots.{root_page}
use Rattle.root_vote.specs.Rooted.{Rooted, is_root_block, rewritten, with_roots}
use Rattle.root_vote.proofs.Rewriting.{first_page, rewritten_others}
use Rattle.root_vote.proofs.RootStages.{root_block}
use Rattle.store_directory.specs.Format.{first_directory}
use Rattle.meta_journal.specs.Directories.{directory_of}
use Rattle.meta_journal.specs.Formats.{IsFormatted, after_format, first_text}
use Rattle.meta_journal.specs.Halves.{first_root, half_base, half_block, with_checkpoint}
use Rattle.meta_journal.proofs.Filled.{filled_blank, filled_erased, filled_half, filled_text}
use Rattle.meta_journal.proofs.FirstDirectory.{first_held, first_short}
use Rattle.meta_journal.proofs.Holding.{rooted_holds}

rewritten_erased : (block : ℕ) (page : List ℕ) (flash : Flash) (p : ℕ) → pages_of_block block p ≡ false → (rewritten block page flash).erased p ≡ flash.erased p
rewritten_erased block page flash p out =
    elsewhere (only_page (256 * block) p) false (if pages_of_block block p then true else flash.erased p) (first_page block (256 * block) refl p out)
    ∙ elsewhere (pages_of_block block p) true (flash.erased p) out

module _ (root : Root) (flash : Flash) where
  abbrev page : List ℕ
  page = root_page root

  pub roots_others : (p : ℕ) → is_root_block p ≡ false → (with_roots root flash).content p ≡ flash.content p
  roots_others p out =
      rewritten_others 2 page (rewritten 1 page (rewritten 0 page flash)) p (root_block 2 (omega arith) p out)
      ∙ rewritten_others 1 page (rewritten 0 page flash) p (root_block 1 (omega arith) p out) ∙ rewritten_others 0 page flash p (root_block 0 (omega arith) p out)

  pub roots_erased : (p : ℕ) → is_root_block p ≡ false → (with_roots root flash).erased p ≡ flash.erased p
  roots_erased p out =
      rewritten_erased 2 page (rewritten 1 page (rewritten 0 page flash)) p (root_block 2 (omega arith) p out)
      ∙ rewritten_erased 1 page (rewritten 0 page flash) p (root_block 1 (omega arith) p out) ∙ rewritten_erased 0 page flash p (root_block 0 (omega arith) p out)

  -- the root pages themselves
  pub roots_are : (block : ℕ) → block < 3 → (with_roots root flash).content (256 * block) ≡ page
  roots_are zero lt = refl
  roots_are (suc zero) lt = refl
  roots_are (suc (suc zero)) lt = refl
  roots_are (suc (suc (suc block))) lt = absurd (omega arith)

module _ (blocks : ℕ) (most : blocks ≤ 512) (flash : Flash) where
  abbrev text : List ℕ
  text = first_text blocks

  abbrev filled : Flash
  filled = with_checkpoint (half_block 0) text flash

  abbrev new : Flash
  new = after_format blocks flash

  short : (1 ≤ length text) × (length text ≤ 2095)
  short = first_short blocks most

  behind : (q : ℕ) → is_root_block (half_base 0 + q) ≡ false
  behind q = above_pages 0 768 (half_base 0 + q) (omega arith)

  same : (q : ℕ) → q < 512 → new.content (half_base 0 + q) ≡ filled.content (half_base 0 + q)
  same q lt = roots_others (first_root blocks) filled (half_base 0 + q) (behind q)

  pub is_formatted : IsFormatted blocks new
  is_formatted = record {
    roots = roots_are (first_root blocks) filled;
    text = λ q lt. same q (omega (arith, short.1)) ∙ (let index : half_base 0 + q ≡ half_base 0 + (0 + q) = omega arith in ap filled.content index) ∙ filled_text (half_block 0) text short.0 (omega (arith, short.1)) flash q lt;
    clean = λ q from below. (roots_erased (first_root blocks) filled (half_base 0 + q) (behind q) ∙ filled_erased (half_block 0) text short.0 (omega (arith, short.1)) flash q from below, refl);
    blank_pages = λ q from below. same q below ∙ filled_blank (half_block 0) text short.0 (omega (arith, short.1)) flash q from below;
    is_firm = λ p. refl;
  }

  pub formatted_holds : (image : ℕ → List ℕ) → 16 ≤ blocks → Rooted (first_root blocks) new → IsImage blocks new image → directory_of blocks image ≡ Some first_directory
  formatted_holds image enough rooted is =
      rooted_holds blocks new (first_root blocks) first_directory image enough rooted (eq-eqb blocks blocks refl)
      (record { held = filled_half (half_block 0) text short.0 (omega (arith, short.1)) flash new.content same blocks ∙ first_held blocks; firm_half = λ q lt. refl }) is
