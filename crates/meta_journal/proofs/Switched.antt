-- What each image of a switch holds.
use Rattle.std.proofs.Common.{◌≡◌, inl, inr, ℕ, zero, suc, ◌+◌, ◌*◌, ◌%◌, ◌^◌, ◌<◌, ◌≤◌, true, false, List, [], Option, Some, length, refl, sym, ◌∙◌, ap, subst, arith}
use Rattle.std.proofs.lemmas.Bool.{cases_eq}
use Rattle.board.specs.Flash.{Flash, IsImage, firm, loosened}
use Rattle.board.proofs.Pages.{above_pages, below_pages}
use Rattle.root_vote.specs.declared.root.Root.{Root}
use Rattle.root_vote.specs.declared.votes.Choice.{Choice}
use Rattle.root_vote.specs.declared.votes.Choice.TheVariants.{Agreed, Nobody, Split}
use Rattle.root_vote.specs.Roots.{AreVotes, LeadsTo, choice_of, choice_of_votes, root_in}
use Rattle.root_vote.specs.Rooted.{IsBetween, IsRepairOf, IsRepaired, SpellRoot, is_root_block}
use Rattle.root_vote.proofs.Choices.{choice_last}
use Rattle.root_vote.proofs.RootStages.{page_left}
use Rattle.store_directory.specs.Directory.{Directory}
use Rattle.meta_journal.specs.Directories.{HoldsHalf, directory_by, is_own}
use Rattle.meta_journal.specs.Halves.{half_base, half_block, half_of, half_pages, with_checkpoint}
use Rattle.meta_journal.specs.Journals.{FirmJournal, Holds, next_of}
use Rattle.meta_journal.proofs.Chosen.{ChoiceHolds}
use Rattle.meta_journal.proofs.Filled.{filled_half, filled_others}
use Rattle.meta_journal.proofs.Frame.{half_same, journal_same}
use Rattle.meta_journal.proofs.Holding.{advancing_holds, halves_of, holds_image, image_holds, repaired_holds, repairing_holds, votes_choice}

-- the next root names the other half
other_half : (g : ℕ) → (g + 1) % 2 ^ 64 % 2 + g % 2 ≡ 1
other_half g = omega arith

-- the pages of one half are none of the other's
half_apart : (h k q : ℕ) → h + k ≡ 1 → q < 512 → half_pages (half_base h) (half_base k + q) ≡ false
half_apart zero k q is lt = above_pages (half_base 0) 512 (half_base k + q) (omega arith)
half_apart (suc h) k q is lt = below_pages (half_base (suc h)) 512 (half_base k + q) (omega arith)

module _ (blocks : ℕ) (flash : Flash) (d : Directory) (enough : 16 ≤ blocks) (still : FirmJournal flash) (held : Holds blocks d flash.content) where
  -- an image of the flash
  pub standing_holds : (image : ℕ → List ℕ) → IsImage blocks flash image → Holds blocks d image
  standing_holds image is = journal_same blocks flash.content image (record {
    roots = λ k lt. is.firm_pages (256 * k) (omega arith) (still (256 * k) (omega arith));
    halves = λ half q low count lt. is.firm_pages (half_base half + q) (omega arith) (still (half_base half + q) (omega arith));
  }) ∙ held

  -- an image of a repair behind a barrier
  module _ (votes : List (Option Root)) (are : AreVotes votes flash.content) where
    choice_is : choice_of_votes votes ≡ choice_of flash.content
    choice_is = votes_choice votes flash.content are

    pub repair_holds : (image : ℕ → List ℕ) → IsRepaired blocks (firm flash) (choice_of_votes votes) image → Holds blocks d image
    repair_holds image is = repairing_holds blocks (firm flash) d image enough held (λ half low count q lt. refl) (subst (λ c. IsRepaired blocks (firm flash) c image) choice_is is)

    led : (root : Root) (was : Choice) → LeadsTo root was → IsRepairOf was (Agreed root)
    led root (Agreed other) leads = ap Agreed (sym leads)
    led root (Split first last) leads = inl (ap Agreed (sym leads))
    led root Nobody leads = absurd leads

    -- the content behind it
    pub united_holds : (root : Root) (content : ℕ → List ℕ) → LeadsTo root (choice_of_votes votes) → SpellRoot root content
        → ((p : ℕ) → is_root_block p ≡ false → content p ≡ flash.content p) → Holds blocks d content
    united_holds root content leads spelled same =
        image_holds blocks d content (Agreed root) (choice_last content root (spelled 0 (omega arith)) (spelled 1 (omega arith)))
        (repaired_holds blocks d (halves_of blocks flash.content) (halves_of blocks content) (choice_of flash.content) (Agreed root)
        (λ half low count. half_same blocks half flash.content content (λ q lt. same (half_base half + q) (above_pages 0 768 (half_base half + q) (omega arith))))
        (led root (choice_of flash.content) (subst (LeadsTo root) choice_is leads)) (holds_image blocks d flash.content held))

  module _ (root : Root) (text : List ℕ) (shortest : 1 ≤ length text) (longest : length text ≤ 20476) (spelled : SpellRoot root flash.content)
      (spells : directory_by blocks text [] ≡ Some d) where
    abbrev to : Root
    to = next_of root

    abbrev filled : Flash
    filled = with_checkpoint (half_block (half_of to)) text flash

    parity : half_of to + half_of root ≡ 1
    parity = other_half root.generation

    before : ChoiceHolds blocks d (Agreed root) (halves_of blocks flash.content)
    before = subst (λ c. ChoiceHolds blocks d c (halves_of blocks flash.content))
        (choice_last flash.content root (spelled 0 (omega arith)) (spelled 1 (omega arith))) (holds_image blocks d flash.content held)

    pub root_own : is_own blocks root ≡ true
    root_own = before.0

    -- while the other half is erased and written
    pub filling_holds : (image : ℕ → List ℕ) → IsImage blocks (loosened (half_pages (half_base (half_of to))) flash) image → Holds blocks d image
    filling_holds image is = image_holds blocks d image (Agreed root) agreed (
      before.0,
      half_same blocks (half_of root) flash.content image
          (λ q lt. left (half_base (half_of root) + q) (omega arith) (half_apart (half_of to) (half_of root) q parity lt)) ∙ before.1,
    )
      where
        left : (p : ℕ) → p < 1792 → half_pages (half_base (half_of to)) p ≡ false → image p ≡ flash.content p
        left p within out = page_left blocks (half_pages (half_base (half_of to))) flash image p (omega arith) out (still p within) is

        agreed : choice_of image ≡ Agreed root
        agreed = choice_last image root
            (ap root_in (left 0 (omega arith) (below_pages (half_base (half_of to)) 512 0 (omega arith))) ∙ spelled 0 (omega arith))
            (ap root_in (left 256 (omega arith) (below_pages (half_base (half_of to)) 512 256 (omega arith))) ∙ spelled 1 (omega arith))

    -- both halves hold the directory then
    old_half : halves_of blocks filled.content (half_of root) ≡ Some d
    old_half = half_same blocks (half_of root) flash.content filled.content
        (λ q lt. filled_others (half_block (half_of to)) text shortest longest flash (half_base (half_of root) + q) (half_apart (half_of to) (half_of root) q parity lt)) ∙ before.1

    new_half : halves_of blocks filled.content (half_of to) ≡ Some d
    new_half = filled_half (half_block (half_of to)) text shortest longest flash filled.content (λ q lt. refl) blocks ∙ spells

    is_other : (k : ℕ) → k < 2 → (k ≡ half_of root → ⊥) → k ≡ half_of to
    is_other k lt other = grind (arith, parity)

    each_half : (k : ℕ) → k < 2 → HoldsHalf blocks k d filled
    each_half k lt = record {
      held = elim (cases_eq k (half_of root)) [
        | inl same ↦ subst (λ h. halves_of blocks filled.content h ≡ Some d) (sym same) old_half
        | inr other ↦ subst (λ h. halves_of blocks filled.content h ≡ Some d) (sym (is_other k lt other)) new_half
      ];
      firm_half = λ q low. refl;
    }

    -- while the roots are rewritten
    pub turning_holds : (image : ℕ → List ℕ) → IsBetween blocks filled to root image → Holds blocks d image
    turning_holds image is = advancing_holds blocks filled to root d image enough before.0 before.0 (each_half 0 (omega arith)) (each_half 1 (omega arith)) is
