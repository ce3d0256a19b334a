-- A half with one entry more, and what the roots choose.
use Rattle.std.proofs.Common.{◌≡◌, ◌↔◌, ℕ, List, [], ◌∷◌, ◌++◌, Option, Some, None, refl, sym, ◌∙◌, ap, subst}
use Rattle.commit_gate.specs.Entries.{Entry, HasEntries, text_at}
use Rattle.commit_gate.proofs.EntriesRead.{entries_read}
use Rattle.root_vote.specs.declared.votes.Choice.{Choice}
use Rattle.root_vote.specs.declared.votes.Choice.TheVariants.{Nobody}
use Rattle.root_vote.specs.Roots.{choice_of}
use Rattle.store_directory.specs.Checkpoints.{Checkpoint, read_checkpoint}
use Rattle.store_directory.specs.Directory.{Directory}
use Rattle.store_directory.specs.Folds.{fold_entries, fold_entry}
use Rattle.store_directory.specs.Options.{◌>>=◌}
use Rattle.meta_journal.specs.Directories.{chosen, directory_in, directory_of}
use Rattle.meta_journal.specs.Journals.{Holds}
use Rattle.meta_journal.proofs.Chosen.{ChoiceHolds}
use Rattle.meta_journal.proofs.Filled.{half_reads}
use Rattle.meta_journal.proofs.Holding.{halves_of, holds_image, image_holds}

-- a step that keeps its value
kept : (found : Option Directory) → (found >>= λ d. Some d) ≡ found
kept None = refl
kept (Some d) = refl

-- two steps behind one
then_two : (found : Option Directory) (f : Directory → Option Directory) (g h : Directory → Option Directory) → ((d : Directory) → h d ≡ (f d >>= g))
    → (found >>= h) ≡ ((found >>= f) >>= g)
then_two None f g h is = refl
then_two (Some d) f g h is = is d

fold_push : (entries : List (List ℕ)) (entry : List ℕ) (d : Directory) → fold_entries d (entries ++ entry ∷ []) ≡ (fold_entries d entries >>= λ x. fold_entry x entry)
fold_push [] entry d = kept (fold_entry d entry)
fold_push (first ∷ entries) entry d =
    then_two (fold_entry d first) (λ next. fold_entries next entries) (λ x. fold_entry x entry) (λ next. fold_entries next (entries ++ entry ∷ [])) (fold_push entries entry)

by_push : (found : Option Checkpoint) (entries : List (List ℕ)) (entry : List ℕ)
    → (found >>= λ c. fold_entries c.directory (entries ++ entry ∷ [])) ≡ ((found >>= λ c. fold_entries c.directory entries) >>= λ d. fold_entry d entry)
by_push None entries entry = refl
by_push (Some c) entries entry = fold_push entries entry c.directory

pub one_entry_more : (blocks : ℕ) (area more : ℕ → List ℕ) (text : List ℕ) (start : ℕ) (entries : List (List ℕ)) (entry : List ℕ) (end next : ℕ)
    → text_at 20476 area 0 ≡ Entry text start → HasEntries area start entries end → text_at 20476 more 0 ≡ Entry text start
    → HasEntries more start (entries ++ entry ∷ []) next → directory_in blocks more ≡ (directory_in blocks area >>= λ d. fold_entry d entry)
one_entry_more blocks area more text start entries entry end next is has is_more has_more =
    half_reads blocks more text start (entries ++ entry ∷ []) is_more (entries_read more start (entries ++ entry ∷ []) next has_more)
    ∙ by_push (read_checkpoint blocks text) entries entry
    ∙ sym (ap (λ (found : Option Directory). found >>= λ d. fold_entry d entry) (half_reads blocks area text start entries is (entries_read area start entries end has)))

-- by a choice
pub by_choice : (blocks : ℕ) (image : ℕ → List ℕ) (d : Directory) (choice : Choice) → choice_of image ≡ choice → Holds blocks d image ↔ ChoiceHolds blocks d choice (halves_of blocks image)
by_choice blocks image d choice is =
    (λ held. subst (λ c. ChoiceHolds blocks d c (halves_of blocks image)) is (holds_image blocks d image held), image_holds blocks d image choice is)

pub none_chosen : (blocks : ℕ) (image : ℕ → List ℕ) → choice_of image ≡ Nobody → directory_of blocks image ≡ None
unfolding directory_of
none_chosen blocks image is = ap (λ c. chosen blocks c (halves_of blocks image)) is
