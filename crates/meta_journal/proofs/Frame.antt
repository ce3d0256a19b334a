-- Images that agree on the roots and on the halves that count hold the same directory.
use Rattle.std.proofs.Common.{◌≡◌, ℕ, ◌+◌, ◌<◌, true, ◌&&◌, List, Option, Some, refl, ◌∙◌, ap, arith, eq-eqb}
use Rattle.commit_gate.proofs.AreaPages.{area_same}
use Rattle.root_vote.specs.declared.votes.Choice.{Choice}
use Rattle.root_vote.specs.declared.votes.Choice.TheVariants.{Agreed, Nobody, Split}
use Rattle.root_vote.specs.Roots.{choice_by, choice_of, root_in}
use Rattle.store_directory.specs.Directory.{Directory}
use Rattle.store_directory.specs.Options.{◌>>=◌, given}
use Rattle.store_directory.specs.Same.{same_directory}
use Rattle.meta_journal.specs.Directories.{SameJournal, chosen, counts, directory_in, directory_of, half_area, is_own}
use Rattle.meta_journal.specs.Halves.{half_base, half_of}

-- where two contents agree on a half, it holds the same
pub half_same : (blocks half : ℕ) (content image : ℕ → List ℕ) → ((q : ℕ) → q < 512 → image (half_base half + q) ≡ content (half_base half + q))
    → directory_in blocks (half_area half image) ≡ directory_in blocks (half_area half content)
half_same blocks half content image same = λ i. directory_in blocks (λ q. area_same (half_base half) content image q (same q) i)

-- where they agree on the root pages, so do the roots
pub choice_same : (content image : ℕ → List ℕ) → image 0 ≡ content 0 → image 256 ≡ content 256 → image 512 ≡ content 512 → choice_of image ≡ choice_of content
unfolding choice_of
choice_same content image first middle last = λ i. choice_by (root_in (first i)) (root_in (middle i)) (root_in (last i))

-- a choice that reads two halves alike
pub chosen_same : (blocks : ℕ) (choice : Choice) (old new : ℕ → Option Directory)
    → ((half : ℕ) → half < 2 → counts choice half ≡ true → new half ≡ old half) → chosen blocks choice new ≡ chosen blocks choice old
chosen_same blocks (Agreed root) old new same =
    let half = same (half_of root) (omega arith) (eq-eqb (half_of root) (half_of root) refl) in
    λ i. given (is_own blocks root) >>= λ _. half i
chosen_same blocks (Split first last) old new same =
    let one = same 0 (omega arith) refl in
    let two = same 1 (omega arith) refl in
    λ i. given (is_own blocks first && is_own blocks last) >>= λ _. one i >>= λ d. two i >>= λ other. given (same_directory d other) >>= λ _. Some d
chosen_same blocks Nobody old new same = refl

pub journal_same : (blocks : ℕ) (image other : ℕ → List ℕ) → SameJournal image other → directory_of blocks other ≡ directory_of blocks image
unfolding directory_of
journal_same blocks image other same =
    let choice = choice_same image other (same.roots 0 (omega arith)) (same.roots 1 (omega arith)) (same.roots 2 (omega arith)) in
    ap (λ c. chosen blocks c (λ half. directory_in blocks (half_area half other))) choice
    ∙ chosen_same blocks (choice_of image) (λ half. directory_in blocks (half_area half image)) (λ half. directory_in blocks (half_area half other))
    (λ half low count. half_same blocks half image other (λ q lt. same.halves half q low count lt))
