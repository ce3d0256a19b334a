-- The directory by a choice of the roots, taken apart and put together.
use Rattle.std.proofs.Common.{◌≡◌, ℕ, Bool, true, false, ◌&&◌, Option, Some, refl, sym, ◌∙◌, ap}
use Rattle.std.proofs.lemmas.Bool.{and_from, and_parts}
use Rattle.std.proofs.lemmas.Option.{none-some}
use Rattle.root_vote.specs.declared.votes.Choice.{Choice}
use Rattle.root_vote.specs.declared.votes.Choice.TheVariants.{Agreed, Nobody, Split}
use Rattle.store_directory.specs.Directory.{Directory}
use Rattle.store_directory.specs.Options.{◌>>=◌, given}
use Rattle.store_directory.specs.Same.{same_directory}
use Rattle.store_directory.proofs.Sames.{directories_decided}
use Rattle.store_directory.proofs.Steps.{some_then}
use Rattle.meta_journal.specs.Directories.{chosen, is_own}
use Rattle.meta_journal.specs.Halves.{half_of}

-- what a choice asks of the roots and of the halves
abbrev pub ChoiceHolds : ℕ → Directory → Choice → (ℕ → Option Directory) → Type 0
ChoiceHolds blocks d (Agreed root) half = (is_own blocks root ≡ true) × (half (half_of root) ≡ Some d)
ChoiceHolds blocks d (Split first last) half =
    (is_own blocks first ≡ true) × (is_own blocks last ≡ true) × (half 0 ≡ Some d) × (half 1 ≡ Some d)
ChoiceHolds blocks d Nobody half = ⊥

given_then : (b : Bool) (rest : Option Directory) (d : Directory) → (given b >>= λ _. rest) ≡ Some d → (b ≡ true) × (rest ≡ Some d)
given_then true rest d is = (refl, is)
given_then false rest d is = absurd (none-some d is)

then_given : (b : Bool) (rest : Option Directory) (d : Directory) → b ≡ true → rest ≡ Some d → (given b >>= λ _. rest) ≡ Some d
then_given b rest d holds is = ap (λ t. given t >>= λ _. rest) holds ∙ is

-- the two halves of a split
abbrev both_of : Option Directory → Option Directory → Option Directory
both_of one two = one >>= λ d. two >>= λ other. given (same_directory d other) >>= λ _. Some d

both_hold : (one two : Option Directory) (d : Directory) → one ≡ Some d → two ≡ Some d → both_of one two ≡ Some d
both_hold one two d first second = (λ i. both_of (first i) (second i)) ∙ then_given (same_directory d d) (Some d) d ((directories_decided d d).1 refl) refl

hold_both : (one two : Option Directory) (d : Directory) → both_of one two ≡ Some d → (one ≡ Some d) × (two ≡ Some d)
hold_both one two d is =
    let (e, first, rest) = some_then one (λ e. two >>= λ other. given (same_directory e other) >>= λ _. Some e) d is in
    let (other, second, last) = some_then two (λ other. given (same_directory e other) >>= λ _. Some e) d rest in
    let parts = given_then (same_directory e other) (Some e) d last in
    (first ∙ parts.1, second ∙ ap Some (sym ((directories_decided e other).0 parts.0)) ∙ parts.1)

module _ (blocks : ℕ) (d : Directory) where
  pub choice_holds : (choice : Choice) (half : ℕ → Option Directory) → ChoiceHolds blocks d choice half → chosen blocks choice half ≡ Some d
  choice_holds (Agreed root) half is = then_given (is_own blocks root) (half (half_of root)) d is.0 is.1
  choice_holds (Split first last) half is =
      then_given (is_own blocks first && is_own blocks last) (both_of (half 0) (half 1)) d
      (and_from (is_own blocks first) (is_own blocks last) is.0 is.1) (both_hold (half 0) (half 1) d is.2 is.3)
  choice_holds Nobody half is = absurd is

  pub holds_choice : (choice : Choice) (half : ℕ → Option Directory) → chosen blocks choice half ≡ Some d → ChoiceHolds blocks d choice half
  holds_choice (Agreed root) half is = given_then (is_own blocks root) (half (half_of root)) d is
  holds_choice (Split first last) half is =
      let parts = given_then (is_own blocks first && is_own blocks last) (both_of (half 0) (half 1)) d is in
      let own = and_parts (is_own blocks first) (is_own blocks last) parts.0 in
      let halves = hold_both (half 0) (half 1) d parts.1 in
      (own.0, own.1, halves.0, halves.1)
  holds_choice Nobody half is = absurd (none-some d is)
