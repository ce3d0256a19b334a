-- The changes of a text one after another.
use Rattle.std.proofs.Common.{◌≡◌, ℕ, zero, suc, ◌≤◌, List, [], ◌∷◌, ◌++◌, length, take, drop, Some, None, refl, sym, ap, ◌∙◌, arith, length-drop}
use Rattle.std.specs.Prelude.{Option}
use Rattle.std.proofs.lemmas.List.{drop-append-le, drop_all, length-take-le}
use Rattle.std.proofs.lemmas.Option.{none-some, same_Some}
use Rattle.store_directory.specs.Changes.{Change}
use Rattle.store_directory.specs.Entries.{change_in, changes_from, changes_in, width_in}
use Rattle.store_directory.specs.Options.{◌>>=◌}
use Rattle.store_directory.proofs.ChangeTexts.{begins-from, change_in-append, change_in-take}

-- a change in front of those that are read behind it
abbrev pub then_changes : Change → Option (List Change) → Option (List Change)
then_changes change found = found >>= λ changes. Some (change ∷ changes)

-- one step, by what the first change is
step : (most : ℕ) (octet : ℕ) (text : List ℕ) (change : Change) → change_in (octet ∷ text) ≡ Some change
    → changes_from (suc most) (octet ∷ text) ≡ then_changes change (changes_from most (drop (width_in (octet ∷ text)) (octet ∷ text)))
unfolding changes_from
step most octet text change is = ap (λ (found : Option Change). found >>= λ change. changes_from most (drop (width_in (octet ∷ text)) (octet ∷ text)) >>= λ changes. Some (change ∷ changes)) is

no_step : (most : ℕ) (octet : ℕ) (text : List ℕ) → change_in (octet ∷ text) ≡ None → changes_from (suc most) (octet ∷ text) ≡ None
unfolding changes_from
no_step most octet text none = ap (λ (found : Option Change). found >>= λ change. changes_from most (drop (width_in (octet ∷ text)) (octet ∷ text)) >>= λ changes. Some (change ∷ changes)) none

at_end : (most : ℕ) → changes_from most [] ≡ Some []
unfolding changes_from
at_end zero = refl
at_end (suc most) = refl

-- as many steps as there are octets are enough
enough : (most more : ℕ) (text : List ℕ) → length text ≤ most → length text ≤ more → changes_from most text ≡ changes_from more text
enough most more [] few fewer = at_end most ∙ sym (at_end more)
enough zero more (octet ∷ text) few fewer = absurd (omega arith)
enough (suc most) zero (octet ∷ text) few fewer = absurd (omega arith)
enough (suc most) (suc more) (octet ∷ text) few fewer =
    by
    (λ change is.
    let some = (begins-from (octet ∷ text) change is).some in
    let rest = drop (width_in (octet ∷ text)) (octet ∷ text) in
    let short = length-drop (width_in (octet ∷ text)) (octet ∷ text) in
    enough most more rest (omega (arith, short)) (omega (arith, short)))
    (change_in (octet ∷ text)) refl
  where
    by : ((change : Change) → change_in (octet ∷ text) ≡ Some change
        → changes_from most (drop (width_in (octet ∷ text)) (octet ∷ text)) ≡ changes_from more (drop (width_in (octet ∷ text)) (octet ∷ text)))
        → (found : Option Change) → change_in (octet ∷ text) ≡ found → changes_from (suc most) (octet ∷ text) ≡ changes_from (suc more) (octet ∷ text)
    by same None is = no_step most octet text is ∙ sym (no_step more octet text is)
    by same (Some change) is = step most octet text change is ∙ ap (then_changes change) (same change is) ∙ sym (step more octet text change is)

pub changes_in-nothing : changes_in [] ≡ Some []
unfolding changes_in changes_from
changes_in-nothing = refl

-- the changes of a text are the first one and those of the rest
pub changes_in-step : (text : List ℕ) (change : Change) → change_in text ≡ Some change → changes_in text ≡ then_changes change (changes_in (drop (width_in text) text))
unfolding changes_in
changes_in-step [] change is =
    let begins = begins-from [] change is in
    let some = begins.some in
    let within = begins.within in
    absurd (omega (arith, some, within))
changes_in-step (octet ∷ text) change is =
    let some = (begins-from (octet ∷ text) change is).some in
    let rest = drop (width_in (octet ∷ text)) (octet ∷ text) in
    let short = length-drop (width_in (octet ∷ text)) (octet ∷ text) in
    step (length text) octet text change is ∙ ap (then_changes change) (enough (length text) (length rest) rest (omega (arith, short)) (omega arith))

-- no change begins it
pub changes_in-none : (text : List ℕ) → 1 ≤ length text → change_in text ≡ None → changes_in text ≡ None
unfolding changes_in
changes_in-none [] some none = absurd (omega arith)
changes_in-none (octet ∷ text) some none = no_step (length text) octet text none

-- changes in front of those that are read behind them
abbrev pub behind_changes : List Change → Option (List Change) → Option (List Change)
behind_changes before found = found >>= λ after. Some (before ++ after)

no_change_in_front : (found : Option (List Change)) → found ≡ behind_changes [] found
no_change_in_front None = refl
no_change_in_front (Some after) = refl

one_more_in_front : (change : Change) (before : List Change) (found : Option (List Change))
    → then_changes change (behind_changes before found) ≡ behind_changes (change ∷ before) found
one_more_in_front change before None = refl
one_more_in_front change before (Some after) = refl

none_left : (octet : ℕ) (text : List ℕ) → changes_from zero (octet ∷ text) ≡ None
unfolding changes_from
none_left octet text = refl

from_parts : (most : ℕ) (front rest : List ℕ) (before : List Change) → changes_from most front ≡ Some before → changes_in (front ++ rest) ≡ behind_changes before (changes_in rest)
from_parts most [] rest before is =
    no_change_in_front (changes_in rest) ∙ ap (λ (before : List Change). behind_changes before (changes_in rest)) (same_Some [] before (sym (at_end most) ∙ is))
from_parts zero (octet ∷ front) rest before is = absurd (none-some before (sym (none_left octet front) ∙ is))
from_parts (suc most) (octet ∷ front) rest before is =
    by (λ changes found. from_parts most (drop (width_in (octet ∷ front)) (octet ∷ front)) rest changes found) (change_in (octet ∷ front)) refl
  where
    more : ((changes : List Change) → changes_from most (drop (width_in (octet ∷ front)) (octet ∷ front)) ≡ Some changes
        → changes_in (drop (width_in (octet ∷ front)) (octet ∷ front) ++ rest) ≡ behind_changes changes (changes_in rest))
        → (change : Change) → change_in (octet ∷ front) ≡ Some change → (found : Option (List Change))
        → changes_from most (drop (width_in (octet ∷ front)) (octet ∷ front)) ≡ found
        → then_changes change found ≡ Some before → changes_in (octet ∷ front ++ rest) ≡ behind_changes before (changes_in rest)
    more others change first None found all = absurd (none-some before all)
    more others change first (Some changes) found all =
        let too = change_in-append (octet ∷ front) rest change first in
        let within = (begins-from (octet ∷ front) change first).within in
        changes_in-step (octet ∷ front ++ rest) change too.spelled
        ∙ ap (λ (n : ℕ). then_changes change (changes_in (drop n (octet ∷ front ++ rest)))) too.width
        ∙ ap (λ (octets : List ℕ). then_changes change (changes_in octets)) (drop-append-le (width_in (octet ∷ front)) (octet ∷ front) rest within)
        ∙ ap (then_changes change) (others changes found)
        ∙ one_more_in_front change changes (changes_in rest)
        ∙ ap (λ (before : List Change). behind_changes before (changes_in rest)) (same_Some (change ∷ changes) before all)

    by : ((changes : List Change) → changes_from most (drop (width_in (octet ∷ front)) (octet ∷ front)) ≡ Some changes
        → changes_in (drop (width_in (octet ∷ front)) (octet ∷ front) ++ rest) ≡ behind_changes changes (changes_in rest))
        → (found : Option Change) → change_in (octet ∷ front) ≡ found → changes_in (octet ∷ front ++ rest) ≡ behind_changes before (changes_in rest)
    by others None none = absurd (none-some before (sym (no_step most octet front none) ∙ is))
    by others (Some change) first =
        more others change first (changes_from most (drop (width_in (octet ∷ front)) (octet ∷ front))) refl (sym (step most octet front change first) ∙ is)

-- Behind octets that spell changes, a text spells these and its own, and none where it has none.
pub changes_in-append : (front rest : List ℕ) (before : List Change) → changes_in front ≡ Some before → changes_in (front ++ rest) ≡ behind_changes before (changes_in rest)
unfolding changes_in
changes_in-append front rest before is = from_parts (length front) front rest before is

-- one change alone
pub changes_in-one : (text : List ℕ) (change : Change) → change_in text ≡ Some change → changes_in (take (width_in text) text) ≡ Some (change ∷ [])
changes_in-one text change is =
    let width = width_in text in
    let front = take width text in
    let too = change_in-take text width change is (omega arith) in
    let within = (begins-from text change is).within in
    changes_in-step front change too.spelled
    ∙ ap (λ (octets : List ℕ). then_changes change (changes_in octets))
    (drop_all (width_in front) front (let same = too.width in omega (arith, length-take-le width text within)))
    ∙ ap (then_changes change) changes_in-nothing

-- one more change, as a loop over a text reads it
pub changes_in-more : (front rest : List ℕ) (before : List Change) (change : Change) → changes_in front ≡ Some before → change_in rest ≡ Some change
    → changes_in (front ++ take (width_in rest) rest) ≡ Some (before ++ change ∷ [])
changes_in-more front rest before change are is =
    changes_in-append front (take (width_in rest) rest) before are ∙ ap (behind_changes before) (changes_in-one rest change is)

-- a text whose next change is not spelled spells no entry
pub changes_in-broken : (front rest : List ℕ) (before : List Change) → changes_in front ≡ Some before → 1 ≤ length rest → change_in rest ≡ None → changes_in (front ++ rest) ≡ None
changes_in-broken front rest before are some none =
    changes_in-append front rest before are ∙ ap (behind_changes before) (changes_in-none rest some none)
