-- Stores of a directory by their places, one of which is replaced.
use Rattle.std.proofs.Common.{◌≡◌, ℕ, zero, suc, ◌+◌, ◌==◌, false, List, [], ◌∷◌, map, drop, slice_set, Some, refl, ◌∙◌, ap, subst, arith}
use Rattle.std.specs.Prelude.{slice_get}
use Rattle.std.proofs.lemmas.Bool.Decides.{nat_tests}
use Rattle.std.proofs.lemmas.Option.{none-some, same_Some}
use Rattle.put_laws.proofs.Spots.{drop_more}
use Rattle.store_directory.specs.Directory.{Listed}
use Rattle.time_index.specs.TimeIndex.{TimeIndex}
use Rattle.vault.specs.Memory.{EachStore}
use Rattle.vault.specs.declared.last_block.LastBlock.{LastBlock}

-- what a function makes of the elements, at a place

pub map_at : {X Y : Type 0} (f : X → Y) (xs : List X) (at : ℕ) (y : Y) → slice_get (map f xs) at ≡ Some y
    → (x : X) × (slice_get xs at ≡ Some x) × (f x ≡ y)
map_at f [] at y is = absurd (none-some y is)
map_at f (x ∷ xs) zero y is = (x, refl, same_Some (f x) y is)
map_at f (x ∷ xs) (suc at) y is = map_at f xs at y is

pub map_set : {X Y : Type 0} (f : X → Y) (xs : List X) (at : ℕ) (x : X) → map f (slice_set xs at x) ≡ slice_set (map f xs) at (f x)
map_set f [] at x = refl
map_set f (y ∷ xs) zero x = refl
map_set f (y ∷ xs) (suc at) x = ap (λ (l : List _). f y ∷ l) (map_set f xs at x)

-- what is left behind the place of one that is replaced
pub set_left : {X : Type 0} (xs : List X) (at : ℕ) (x : X) → drop (suc at) (slice_set xs at x) ≡ drop (suc at) xs
set_left [] at x = refl
set_left (y ∷ xs) zero x = refl
set_left (y ∷ xs) (suc at) x = set_left xs at x

pub left_next : {X : Type 0} (xs ys : List X) (at : ℕ) → drop at xs ≡ drop at ys → drop (at + 1) xs ≡ drop (at + 1) ys
left_next xs ys at same =
    let one : suc at ≡ at + 1 = omega arith in
    subst (λ (n : ℕ). drop n xs ≡ drop n ys) one (drop_more xs ys at same)

pub left_set : {X : Type 0} (xs ys : List X) (at : ℕ) (x : X) → drop at xs ≡ drop at ys → drop (at + 1) (slice_set xs at x) ≡ drop (at + 1) ys
left_set xs ys at x same =
    let one : suc at ≡ at + 1 = omega arith in
    subst (λ (n : ℕ). drop n (slice_set xs at x) ≡ drop n ys) one (set_left xs at x ∙ drop_more xs ys at same)

-- the store at a place, with what is loaded of it
pub each_here : (P : Listed → TimeIndex → LastBlock → Type 0) (stores : List Listed) (indexes : List TimeIndex) (lasts : List LastBlock)
    (at : ℕ) (s : Listed) (index : TimeIndex) (last : LastBlock) → EachStore P stores indexes lasts
    → slice_get stores at ≡ Some s → slice_get indexes at ≡ Some index → slice_get lasts at ≡ Some last → P s index last
each_here P [] indexes lasts at s index last each is has knows = absurd (none-some s is)
each_here P (x ∷ stores) [] lasts at s index last each is has knows = absurd each
each_here P (x ∷ stores) (i ∷ indexes) [] at s index last each is has knows = absurd each
each_here P (x ∷ stores) (i ∷ indexes) (l ∷ lasts) zero s index last each is has knows =
    subst (λ (s : Listed). P s index last) (same_Some x s is)
    (subst (λ (i : TimeIndex). P x i last) (same_Some i index has) (subst (P x i) (same_Some l last knows) each.0))
each_here P (x ∷ stores) (i ∷ indexes) (l ∷ lasts) (suc at) s index last each is has knows =
    each_here P stores indexes lasts at s index last each.1 is has knows

-- What goes on at each place but one.
abbrev pub GoesElsewhere : (P Q : Listed → TimeIndex → LastBlock → Type 0) → List Listed → (at : ℕ) → Type 0
GoesElsewhere P Q stores at =
    (place : ℕ) (s : Listed) (index : TimeIndex) (last : LastBlock) → (place == at) ≡ false → slice_get stores place ≡ Some s
    → P s index last → Q s index last

further : (a b : ℕ) → (a == b) ≡ false → (suc a == suc b) ≡ false
further a b h = grind (arith, nat_tests, h)

-- what holds at each place holds otherwise
pub each_on : (P Q : Listed → TimeIndex → LastBlock → Type 0) (stores : List Listed) (indexes : List TimeIndex) (lasts : List LastBlock)
    → ((place : ℕ) (s : Listed) (index : TimeIndex) (last : LastBlock) → slice_get stores place ≡ Some s → P s index last → Q s index last)
    → EachStore P stores indexes lasts → EachStore Q stores indexes lasts
each_on P Q [] [] [] goes each = tt
each_on P Q [] [] (l ∷ lasts) goes each = absurd each
each_on P Q [] (i ∷ indexes) lasts goes each = absurd each
each_on P Q (x ∷ stores) [] lasts goes each = absurd each
each_on P Q (x ∷ stores) (i ∷ indexes) [] goes each = absurd each
each_on P Q (x ∷ stores) (i ∷ indexes) (l ∷ lasts) goes each = (
  goes zero x i l refl each.0,
  each_on P Q stores indexes lasts (λ place s index last is. goes (suc place) s index last is) each.1,
)

-- another store, index and last block at one place
pub each_set : (P Q : Listed → TimeIndex → LastBlock → Type 0) (stores : List Listed) (indexes : List TimeIndex) (lasts : List LastBlock)
    (at : ℕ) (s new : Listed) (index : TimeIndex) (last : LastBlock) → GoesElsewhere P Q stores at → EachStore P stores indexes lasts
    → slice_get stores at ≡ Some s → Q new index last → EachStore Q (slice_set stores at new) (slice_set indexes at index) (slice_set lasts at last)
each_set P Q [] indexes lasts at s new index last goes each is here = absurd (none-some s is)
each_set P Q (x ∷ stores) [] lasts at s new index last goes each is here = absurd each
each_set P Q (x ∷ stores) (i ∷ indexes) [] at s new index last goes each is here = absurd each
each_set P Q (x ∷ stores) (i ∷ indexes) (l ∷ lasts) zero s new index last goes each is here = (
  here,
  each_on P Q stores indexes lasts (λ place t j k there. goes (suc place) t j k (apart place) there) each.1,
)
  where
    apart : (place : ℕ) → (suc place == 0) ≡ false
    apart place = grind (arith, nat_tests)
each_set P Q (x ∷ stores) (i ∷ indexes) (l ∷ lasts) (suc at) s new index last goes each is here = (
  goes zero x i l (apart at) refl each.0,
  each_set P Q stores indexes lasts at s new index last (λ place t j k differs there. goes (suc place) t j k (further place at differs) there) each.1 is here,
)
  where
    apart : (at : ℕ) → (0 == suc at) ≡ false
    apart at = grind (arith, nat_tests)

-- another store at one place
pub each_replaced : (P : Listed → TimeIndex → LastBlock → Type 0) (stores : List Listed) (indexes : List TimeIndex) (lasts : List LastBlock)
    (at : ℕ) (s new : Listed) → EachStore P stores indexes lasts → slice_get stores at ≡ Some s
    → ((index : TimeIndex) (last : LastBlock) → P s index last → P new index last) → EachStore P (slice_set stores at new) indexes lasts
each_replaced P [] indexes lasts at s new each is goes = absurd (none-some s is)
each_replaced P (x ∷ stores) [] lasts at s new each is goes = absurd each
each_replaced P (x ∷ stores) (i ∷ indexes) [] at s new each is goes = absurd each
each_replaced P (x ∷ stores) (i ∷ indexes) (l ∷ lasts) zero s new each is goes =
    (goes i l (subst (λ (y : Listed). P y i l) (same_Some x s is) each.0), each.1)
each_replaced P (x ∷ stores) (i ∷ indexes) (l ∷ lasts) (suc at) s new each is goes =
    (each.0, each_replaced P stores indexes lasts at s new each.1 is goes)
