-- The directory by the roots, and by two halves.
use Rattle.std.proofs.Common.{◌≡◌, ℕ, zero, suc, ◌+◌, Bool, true, false, List, Option, Some, refl, sym, ◌∙◌, ap, subst, arith}
use Rattle.std.proofs.lemmas.Bool.{false≢true}
use Rattle.root_vote.specs.declared.root.Root.{Root}
use Rattle.root_vote.specs.declared.votes.Choice.{Choice}
use Rattle.root_vote.specs.Roots.{AreVotes, choice_of, choice_of_votes}
use Rattle.store_directory.specs.Directory.{Directory}
use Rattle.store_directory.specs.Options.{◌>>=◌, given}
use Rattle.store_directory.specs.Same.{same_directory}
use Rattle.store_directory.proofs.Sames.{directories_decided}
use Rattle.meta_journal.specs.Directories.{chosen, directory_of}
use Rattle.meta_journal.proofs.Holding.{votes_choice}
use Rattle.journal_reader.specs.Halves.{both_halves, directory_if, half_reads, halves_in}

-- what is chosen by the votes of an image is what the image holds
pub chosen_by_votes : (blocks n : ℕ) (votes : List (Option Root)) (image : ℕ → List ℕ) (answer : Option Directory) → n ≡ blocks → AreVotes votes image
    → chosen n (choice_of_votes votes) (halves_in n image) ≡ answer → directory_of blocks image ≡ answer
unfolding directory_of
chosen_by_votes blocks n votes image answer is are reads =
    sym (ap (λ m. chosen m (choice_of image) (halves_in m image)) is)
    ∙ sym (ap (λ c. chosen n c (halves_in n image)) (votes_choice votes image are)) ∙ reads

-- the pages that are read for what the votes choose are those for what the image does
pub reads_by_votes : (P : ℕ → Type 0) (votes : List (Option Root)) (image : ℕ → List ℕ) (choice : Choice) → AreVotes votes image
    → choice ≡ choice_of_votes votes → P (3 + half_reads choice) → P (3 + half_reads (choice_of image))
reads_by_votes P votes image choice are is = subst (λ (v : Choice). P (3 + half_reads v)) (is ∙ votes_choice votes image are)

-- two directories that a test compares, in the one order and in the other
in_order : (d : Directory) (b : Bool) → (given b >>= λ _. Some d) ≡ directory_if b d
in_order d true = refl
in_order d false = refl

swapped : (d e : Directory) (b c : Bool) → (b ≡ true → e ≡ d) → (b ≡ true → c ≡ true) → (c ≡ true → b ≡ true) → (given b >>= λ _. Some e) ≡ directory_if c d
swapped d e true true same there back = ap Some (same refl)
swapped d e true false same there back = absurd (false≢true (there refl))
swapped d e false true same there back = absurd (false≢true (back refl))
swapped d e false false same there back = refl

pub both_read : (half : ℕ → Option Directory) (h k : ℕ) (d e : Directory) → h + k ≡ 1 → half h ≡ Some d → half k ≡ Some e
    → both_halves (half 0) (half 1) ≡ directory_if (same_directory d e) d
both_read half zero k d e is own other =
    let second : half 1 ≡ Some e = ap half (omega (arith, is)) ∙ other in
    (λ i. both_halves (own i) (second i)) ∙ in_order d (same_directory d e)
both_read half (suc h) k d e is own other =
    let first : half 0 ≡ Some e = ap half (omega (arith, is)) ∙ other in
    let second : half 1 ≡ Some d = ap half (omega (arith, is)) ∙ own in
    (λ i. both_halves (first i) (second i))
    ∙ swapped d e (same_directory e d) (same_directory d e) (directories_decided e d).0
    (λ t. (directories_decided d e).1 (sym ((directories_decided e d).0 t)))
    (λ t. (directories_decided e d).1 (sym ((directories_decided d e).0 t)))
