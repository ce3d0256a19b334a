-- What images hold while the roots are rewritten.
use Rattle.std.proofs.Common.{◌≡◌, inl, inr, ℕ, zero, suc, ◌+◌, ◌<◌, ◌≤◌, true, List, Option, Some, refl, sym, ◌∙◌, ap, subst, arith, eq-eqb}
use Rattle.board.specs.Flash.{Flash, IsImage, loosened}
use Rattle.board.proofs.Pages.{above_pages}
use Rattle.root_vote.specs.declared.root.Root.{Root}
use Rattle.root_vote.specs.declared.votes.Choice.{Choice}
use Rattle.root_vote.specs.declared.votes.Choice.TheVariants.{Agreed, Nobody, Split}
use Rattle.root_vote.specs.Roots.{AreVotes, LeadsTo, choice_of, choice_of_votes, root_in}
use Rattle.root_vote.specs.Rooted.{IsBetween, IsOneOf, IsRepairOf, IsRepaired, Rooted, is_root_block}
use Rattle.root_vote.proofs.Choices.{choice_last}
use Rattle.root_vote.proofs.RootStages.{page_left}
use Rattle.store_directory.specs.Directory.{Directory}
use Rattle.meta_journal.specs.Directories.{FirmHalves, HoldsHalf, counts, directory_in, directory_of, half_area, is_own}
use Rattle.meta_journal.specs.Halves.{IsFirmHalf, half_base, half_of}
use Rattle.meta_journal.proofs.Chosen.{ChoiceHolds, choice_holds, holds_choice}
use Rattle.meta_journal.proofs.Frame.{half_same}

-- the halves of an image
abbrev pub halves_of : ℕ → (ℕ → List ℕ) → ℕ → Option Directory
halves_of blocks image half = directory_in blocks (half_area half image)

pub image_holds : (blocks : ℕ) (d : Directory) (image : ℕ → List ℕ) (choice : Choice) → choice_of image ≡ choice
    → ChoiceHolds blocks d choice (halves_of blocks image) → directory_of blocks image ≡ Some d
unfolding directory_of
image_holds blocks d image choice is holds =
    choice_holds blocks d (choice_of image) (halves_of blocks image) (subst (λ c. ChoiceHolds blocks d c (halves_of blocks image)) (sym is) holds)

pub holds_image : (blocks : ℕ) (d : Directory) (image : ℕ → List ℕ) → directory_of blocks image ≡ Some d → ChoiceHolds blocks d (choice_of image) (halves_of blocks image)
unfolding directory_of
holds_image blocks d image is = holds_choice blocks d (choice_of image) (halves_of blocks image) is

-- a firm half, seen in an image that differs in root blocks alone
pub half_left : (blocks half : ℕ) (flash : Flash) (image : ℕ → List ℕ) → 16 ≤ blocks → half < 2 → IsFirmHalf half flash
    → IsImage blocks (loosened is_root_block flash) image → halves_of blocks image half ≡ halves_of blocks flash.content half
half_left blocks half flash image enough low still is = half_same blocks half flash.content image
    (λ q lt. page_left blocks is_root_block flash image (half_base half + q) (omega arith) (above_pages 0 768 (half_base half + q) (omega arith)) (still q lt) is)

-- and in each image
pub half_stands : (blocks half : ℕ) (flash : Flash) (image : ℕ → List ℕ) → 16 ≤ blocks → half < 2 → IsFirmHalf half flash
    → IsImage blocks flash image → halves_of blocks image half ≡ halves_of blocks flash.content half
half_stands blocks half flash image enough low still is = half_same blocks half flash.content image
    (λ q lt. is.firm_pages (half_base half + q) (omega arith) (still q lt))

pub rooted_holds : (blocks : ℕ) (flash : Flash) (root : Root) (d : Directory) (image : ℕ → List ℕ) → 16 ≤ blocks → Rooted root flash → is_own blocks root ≡ true
    → HoldsHalf blocks (half_of root) d flash → IsImage blocks flash image → directory_of blocks image ≡ Some d
rooted_holds blocks flash root d image enough rooted own half is =
    image_holds blocks d image (Agreed root) agreed (own, half_stands blocks (half_of root) flash image enough (omega arith) half.firm_half is ∙ half.held)
  where
    agreed : choice_of image ≡ Agreed root
    agreed = choice_last image root
        (ap root_in (is.firm_pages 0 (omega arith) (rooted.firm_roots 0 (omega arith))) ∙ rooted.spelled 0 (omega arith))
        (ap root_in (is.firm_pages 256 (omega arith) (rooted.firm_roots 1 (omega arith))) ∙ rooted.spelled 1 (omega arith))

-- a half is the one or the other
module _ (blocks : ℕ) (d : Directory) (half : ℕ → Option Directory) (one : half 0 ≡ Some d) (two : half 1 ≡ Some d) where
  each_half : (k : ℕ) → k < 2 → half k ≡ Some d
  each_half zero lt = one
  each_half (suc zero) lt = two
  each_half (suc (suc k)) lt = absurd (omega arith)

  pub one_of_two : (new old : Root) (choice : Choice) → is_own blocks new ≡ true → is_own blocks old ≡ true → IsOneOf new old choice → ChoiceHolds blocks d choice half
  one_of_two new old choice own_new own_old (inl is) = subst (λ c. ChoiceHolds blocks d c half) (sym is) (own_new, each_half (half_of new) (omega arith))
  one_of_two new old choice own_new own_old (inr (inl is)) = subst (λ c. ChoiceHolds blocks d c half) (sym is) (own_old, each_half (half_of old) (omega arith))
  one_of_two new old choice own_new own_old (inr (inr is)) = subst (λ c. ChoiceHolds blocks d c half) (sym is) (own_new, own_old, one, two)

pub advancing_holds : (blocks : ℕ) (flash : Flash) (new old : Root) (d : Directory) (image : ℕ → List ℕ) → 16 ≤ blocks → is_own blocks new ≡ true → is_own blocks old ≡ true
    → HoldsHalf blocks 0 d flash → HoldsHalf blocks 1 d flash → IsBetween blocks flash new old image → directory_of blocks image ≡ Some d
advancing_holds blocks flash new old d image enough own_new own_old first second is =
    image_holds blocks d image (choice_of image) refl (one_of_two blocks d (halves_of blocks image)
    (half_left blocks 0 flash image enough (omega arith) first.firm_half is.elsewhere ∙ first.held)
    (half_left blocks 1 flash image enough (omega arith) second.firm_half is.elsewhere ∙ second.held)
    new old (choice_of image) own_new own_old is.choice)

-- a repair of a choice
pub repaired_holds : (blocks : ℕ) (d : Directory) (old new : ℕ → Option Directory) (was now : Choice)
    → ((half : ℕ) → half < 2 → counts was half ≡ true → new half ≡ old half) → IsRepairOf was now → ChoiceHolds blocks d was old → ChoiceHolds blocks d now new
repaired_holds blocks d old new (Agreed root) now same repair holds = subst (λ c. ChoiceHolds blocks d c new) (sym repair)
    (holds.0, same (half_of root) (omega arith) (eq-eqb (half_of root) (half_of root) refl) ∙ holds.1)
repaired_holds blocks d old new (Split first last) now same repair holds =
    one_of_two blocks d new (same 0 (omega arith) refl ∙ holds.2) (same 1 (omega arith) refl ∙ holds.3) first last now holds.0 holds.1 repair
repaired_holds blocks d old new Nobody now same repair holds = absurd repair

pub repairing_holds : (blocks : ℕ) (flash : Flash) (d : Directory) (image : ℕ → List ℕ) → 16 ≤ blocks → directory_of blocks flash.content ≡ Some d → FirmHalves flash
    → IsRepaired blocks flash (choice_of flash.content) image → directory_of blocks image ≡ Some d
repairing_holds blocks flash d image enough held still is = image_holds blocks d image (choice_of image) refl
    (repaired_holds blocks d (halves_of blocks flash.content) (halves_of blocks image) (choice_of flash.content) (choice_of image)
    (λ half low count. half_left blocks half flash image enough low (still half low count) is.elsewhere) is.choice (holds_image blocks d flash.content held))

-- the votes of a content agree on what its root pages do
pub votes_choice : (votes : List (Option Root)) (content : ℕ → List ℕ) → AreVotes votes content → choice_of_votes votes ≡ choice_of content
unfolding choice_of
votes_choice votes content are = ap choice_of_votes are

-- where a directory is held, the root by which the choice is repaired is of this device
own_by : (blocks : ℕ) (d : Directory) (root : Root) (choice : Choice) (half : ℕ → Option Directory) → LeadsTo root choice → ChoiceHolds blocks d choice half → is_own blocks root ≡ true
own_by blocks d root (Agreed agreed) half leads holds = subst (λ (r : Root). is_own blocks r ≡ true) leads holds.0
own_by blocks d root (Split first last) half leads holds = subst (λ (r : Root). is_own blocks r ≡ true) leads holds.0
own_by blocks d root Nobody half leads holds = absurd leads

pub own_of : (blocks : ℕ) (d : Directory) (root : Root) (votes : List (Option Root)) (content : ℕ → List ℕ) → LeadsTo root (choice_of_votes votes) → AreVotes votes content
    → directory_of blocks content ≡ Some d → is_own blocks root ≡ true
own_of blocks d root votes content leads are held =
    own_by blocks d root (choice_of content) (halves_of blocks content) (subst (LeadsTo root) (votes_choice votes content are) leads) (holds_image blocks d content held)
