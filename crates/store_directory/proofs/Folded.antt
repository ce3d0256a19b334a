-- A text whose changes are made one after another.
use Rattle.std.proofs.Common.{◌≡◌, ◌≢◌, ℕ, ◌<◌, ◌≤◌, List, [], ◌∷◌, ◌++◌, length, take, drop, refl, sym, ap, subst, ◌∙◌, arith}
use Rattle.std.specs.Prelude.{None, Option, Some, ◌==◌, if◌then◌else◌}
use Rattle.std.specs.Option.{option_and_then}
use Rattle.std.proofs.lemmas.List.{length-drop, take-append-drop, take_all}
use Rattle.std.proofs.Math.Seq.{take-add}
use Rattle.store_directory.specs.Changes.{Change, Clock, Forward, Gone, Links, Put, Swap, Types, apply, apply_all}
use Rattle.store_directory.specs.Directory.{Directory}
use Rattle.store_directory.specs.Entries.{changes_in, width_in}
use Rattle.store_directory.specs.Folds.{Makes, MakesOne, Stops, StopsHere, fold_entry}
use Rattle.store_directory.specs.Kept.{Kept, largest_after, largest_after_all}
use Rattle.store_directory.specs.Slots.{greater, largest_in}
use Rattle.store_directory.specs.declared.fault.FoldFault.{FoldFault}
use Rattle.store_directory.specs.declared.fault.FoldFault.TheVariants.{NoMemory, Spelling, Unfit}
use Rattle.store_directory.proofs.EntryTexts.{behind_changes, changes_in-append, changes_in-broken, changes_in-more, changes_in-nothing, changes_in-step, then_changes}

-- changes behind others

then-parted : {A B C : Type 0} (found : Option A) (f : A → Option C) (g : A → Option B) (h : B → Option C) → ((a : A) → f a ≡ option_and_then h (g a))
    → option_and_then f found ≡ option_and_then h (option_and_then g found)
then-parted None f g h same = refl
then-parted (Some a) f g h same = same a

pub apply_all-append : (d : Directory) (before after : List Change) → apply_all d (before ++ after) ≡ option_and_then (λ (e : Directory). apply_all e after) (apply_all d before)
apply_all-append d [] after = refl
apply_all-append d (change ∷ before) after =
    then-parted (apply d change) (λ (next : Directory). apply_all next (before ++ after)) (λ (next : Directory). apply_all next before) (λ (e : Directory). apply_all e after)
    (λ (next : Directory). apply_all-append next before after)

after : (d e : Directory) (before rest : List Change) → apply_all d before ≡ Some e → apply_all d (before ++ rest) ≡ apply_all e rest
after d e before rest is = apply_all-append d before rest ∙ ap (option_and_then (λ (e : Directory). apply_all e rest)) is

alone : (found : Option Directory) → option_and_then (λ (next : Directory). apply_all next []) found ≡ found
alone None = refl
alone (Some next) = refl

-- the greatest sizes, change by change

same-after : (change : Change) (f g : ℕ → ℕ) → ((n : ℕ) → f n ≡ g n) → (n : ℕ) → largest_after change f n ≡ largest_after change g n
same-after (Clock now reports) f g same n = same n
same-after (Put row) f g same n = ap (λ (m : ℕ). if n == row.identifier then greater m row.size else f n) (same row.identifier) ∙ ap (λ (m : ℕ). if n == row.identifier then greater (g row.identifier) row.size else m) (same n)
same-after (Gone store) f g same n = ap (λ (m : ℕ). if n == store then 0 else m) (same n)
same-after (Forward add pattern) f g same n = same n
same-after (Types store add pattern) f g same n = same n
same-after (Links store links) f g same n = same n
same-after (Swap store link) f g same n = same n

largest-append : (before : List Change) (change : Change) (f : ℕ → ℕ) (n : ℕ) → largest_after_all (before ++ change ∷ []) f n ≡ largest_after change (largest_after_all before f) n
largest-append [] change f n = refl
largest-append (first ∷ before) change f n = largest-append before change (largest_after first f) n

-- what a fold has made

pub makes-nothing : (text : List ℕ) (now : Kept) → Makes text 0 now now
makes-nothing text now = record { changes = []; within = omega arith; spelled = changes_in-nothing; made = refl; sizes = λ n. refl }

pub makes-more : (text : List ℕ) (at next : ℕ) (old mid new : Kept) → Makes text at old mid → MakesOne text at next mid new → Makes text next old new
makes-more text at next old mid new makes one = record {
  changes = makes.changes ++ one.change ∷ [];
  within = one.within;
  spelled = subst (λ (front : List ℕ). changes_in front ≡ Some (makes.changes ++ one.change ∷ []))
      (sym (ap (λ (n : ℕ). take n text) one.behind ∙ take-add at (width_in (drop at text)) text))
      (changes_in-more (take at text) (drop at text) makes.changes one.change makes.spelled one.spelled);
  made = after old.directory mid.directory makes.changes (one.change ∷ []) makes.made ∙ alone (apply mid.directory one.change) ∙ one.made;
  sizes = λ n. one.sizes n ∙ same-after one.change (largest_in mid.sizes) (largest_after_all makes.changes (largest_in old.sizes)) makes.sizes n
      ∙ sym (largest-append makes.changes one.change (largest_in old.sizes) n);
}

-- an entry that is made to its end

fold-is : (d e : Directory) (text : List ℕ) (changes : List Change) → changes_in text ≡ Some changes → apply_all d changes ≡ Some e → fold_entry d text ≡ Some e
unfolding fold_entry
fold-is d e text changes spelled made = ap (option_and_then (apply_all d)) spelled ∙ made

pub fold-made : (text : List ℕ) (at : ℕ) (old new : Kept) → Makes text at old new → fold_entry old.directory (take at text) ≡ Some new.directory
fold-made text at old new makes = fold-is old.directory new.directory (take at text) makes.changes makes.spelled makes.made

pub fold-whole : (text : List ℕ) (at : ℕ) (old new : Kept) → Makes text at old new → length text ≤ at → fold_entry old.directory text ≡ Some new.directory
fold-whole text at old new makes end =
    subst (λ (front : List ℕ). fold_entry old.directory front ≡ Some new.directory) (take_all at text end) (fold-made text at old new makes)

-- and one that is not

pub stops-at : (fault : FoldFault) (text : List ℕ) (at : ℕ) (old new : Kept) → at < length text → Makes text at old new → StopsHere fault text at new → Stops fault text old new
stops-at fault text at old new some makes why = record { at = at; some = some; made = fold-made text at old new makes; why = why }

fold-none : (d : Directory) (text : List ℕ) → changes_in text ≡ None → fold_entry d text ≡ None
unfolding fold_entry
fold-none d text none = ap (option_and_then (apply_all d)) none

-- what stands behind a change that does not fit is of no use
unfit-follows : (d e : Directory) (before : List Change) (change : Change) (rest : Option (List Change)) → apply_all d before ≡ Some e → apply e change ≡ None
    → option_and_then (apply_all d) (behind_changes before (then_changes change rest)) ≡ None
unfit-follows d e before change None made unfit = refl
unfit-follows d e before change (Some rest) made unfit =
    after d e before (change ∷ rest) made ∙ ap (option_and_then (λ (next : Directory). apply_all next rest)) unfit

pub unlawful-at : (fault : FoldFault) (text : List ℕ) (at : ℕ) (old new : Kept) → at < length text → Makes text at old new → StopsHere fault text at new → fault ≢ NoMemory
    → fold_entry old.directory text ≡ None
unfolding fold_entry
unlawful-at (Spelling place) text at old new some makes why other =
    subst (λ (whole : List ℕ). fold_entry old.directory whole ≡ None) (take-append-drop at text)
    (fold-none old.directory (take at text ++ drop at text)
    (changes_in-broken (take at text) (drop at text) makes.changes makes.spelled (omega (arith, length-drop at text)) why.1))
unlawful-at (Unfit place) text at old new some makes why other =
    let unfit = why.1 in
    subst (λ (whole : List ℕ). fold_entry old.directory whole ≡ None) (take-append-drop at text)
    (ap (option_and_then (apply_all old.directory)) (
    changes_in-append (take at text) (drop at text) makes.changes makes.spelled
    ∙ ap (behind_changes makes.changes) (changes_in-step (drop at text) unfit.change unfit.spelled)
    )
    ∙ unfit-follows old.directory new.directory makes.changes unfit.change (changes_in (drop (width_in (drop at text)) (drop at text))) makes.made unfit.unfit)
unlawful-at NoMemory text at old new some makes why other = absurd (other refl)
