-- A place in a list, and the list before and behind it.
use Rattle.std.proofs.Common.{◌≡◌, ℕ, zero, suc, true, false, not, ◌==◌, List, [], ◌∷◌, ◌++◌, length, map, drop, take, slice_set, Some, refl, sym, ◌∙◌, ap, arith}
use Rattle.std.specs.Prelude.{find, slice_get}
use Rattle.std.proofs.lemmas.Bool.{and_parts, eq-eqb, not-true}
use Rattle.std.proofs.lemmas.Bool.Decides.{nat_tests}
use Rattle.std.proofs.lemmas.Option.{none-some, same_Some}
use Rattle.pst_model.specs.Arrivals.{offered}
use Rattle.pst_model.specs.Changes.{is_named}
use Rattle.pst_model.specs.Laws as laws
use Rattle.pst_model.specs.Rules.{at_first}
use Rattle.pst_model.specs.Table.{Store, Stored}
use Rattle.store_directory.specs.Directory.{Listed, are_distinct, find_store, identifiers, is_new, put_store}
use Rattle.store_directory.proofs.Puts.{swapped}
use Rattle.put_laws.specs.Walks.{offered_to}

pub record Spot {X : Type 0} (xs : List X) (at : ℕ) (x : X) : Type 0 where
  pub front : List X
  pub back : List X
  pub parted : xs ≡ front ++ x ∷ back
  pub long : length front ≡ at

pub spot : {X : Type 0} (xs : List X) (at : ℕ) (x : X) → slice_get xs at ≡ Some x → Spot xs at x
spot [] at x is = absurd (none-some x is)
spot (y ∷ xs) zero x is = record { front = []; back = xs; parted = ap (λ (z : _). z ∷ xs) (same_Some y x is); long = refl }
spot (y ∷ xs) (suc at) x is =
    let there = spot xs at x is in
    record { front = y ∷ there.front; back = there.back; parted = ap (λ (l : List _). y ∷ l) there.parted; long = ap suc there.long }

pub drop_to : {X : Type 0} (front : List X) (x : X) (back : List X) → drop (length front) (front ++ x ∷ back) ≡ x ∷ back
drop_to [] x back = refl
drop_to (y ∷ front) x back = drop_to front x back

pub drop_past : {X : Type 0} (front : List X) (x : X) (back : List X) → drop (suc (length front)) (front ++ x ∷ back) ≡ back
drop_past [] x back = refl
drop_past (y ∷ front) x back = drop_past front x back

pub take_to : {X : Type 0} (front : List X) (x : X) (back : List X) → take (length front) (front ++ x ∷ back) ≡ front
take_to [] x back = refl
take_to (y ∷ front) x back = ap (λ (l : List _). y ∷ l) (take_to front x back)

pub take_past : {X : Type 0} (front : List X) (x : X) (back : List X) → take (suc (length front)) (front ++ x ∷ back) ≡ front ++ x ∷ []
take_past [] x back = refl
take_past (y ∷ front) x back = ap (λ (l : List _). y ∷ l) (take_past front x back)

-- the element at a place is that of the rest from there on
pub get_left : {X : Type 0} (xs ys : List X) (at : ℕ) (x : X) → drop at xs ≡ drop at ys → slice_get ys at ≡ Some x → slice_get xs at ≡ Some x
get_left xs ys at x same is = sym (from_rest xs at) ∙ ap (λ (l : List _). slice_get l 0) same ∙ from_rest ys at ∙ is
  where
    from_rest : {Y : Type 0} (zs : List Y) (at : ℕ) → slice_get (drop at zs) 0 ≡ slice_get zs at
    from_rest zs zero = refl
    from_rest [] (suc at) = refl
    from_rest (z ∷ zs) (suc at) = from_rest zs at

-- behind a place
pub drop_more : {X : Type 0} (xs ys : List X) (at : ℕ) → drop at xs ≡ drop at ys → drop (suc at) xs ≡ drop (suc at) ys
drop_more xs ys at same = sym (one_past xs at) ∙ ap (drop 1) same ∙ one_past ys at
  where
    one_past : {Y : Type 0} (zs : List Y) (at : ℕ) → drop 1 (drop at zs) ≡ drop (suc at) zs
    one_past zs zero = refl
    one_past [] (suc at) = refl
    one_past (z ∷ zs) (suc at) = one_past zs at

-- the element at a place
pub get_here : {X : Type 0} (front : List X) (x : X) (back : List X) → slice_get (front ++ x ∷ back) (length front) ≡ Some x
get_here [] x back = refl
get_here (y ∷ front) x back = get_here front x back

-- another element at a place

set_here : {X : Type 0} (front : List X) (x new : X) (back : List X) → slice_set (front ++ x ∷ back) (length front) new ≡ front ++ new ∷ back
set_here [] x new back = refl
set_here (y ∷ front) x new back = ap (λ (l : List _). y ∷ l) (set_here front x new back)

pub set_in : {X : Type 0} (xs front : List X) (x new : X) (back : List X) (at : ℕ) → xs ≡ front ++ x ∷ back → length front ≡ at
    → front ++ new ∷ back ≡ slice_set xs at new
set_in xs front x new back at parted long =
    sym (set_here front x new back)
    ∙ ap (λ (n : ℕ). slice_set (front ++ x ∷ back) n new) long
    ∙ ap (λ (l : List _). slice_set l at new) (sym parted)

pub set_same : {X : Type 0} (xs : List X) (at : ℕ) (x : X) → slice_get xs at ≡ Some x → slice_set xs at x ≡ xs
set_same [] at x is = absurd (none-some x is)
set_same (y ∷ xs) zero x is = ap (λ (z : _). z ∷ xs) (sym (same_Some y x is))
set_same (y ∷ xs) (suc at) x is = ap (λ (l : List _). y ∷ l) (set_same xs at x is)

pub set_again : {X : Type 0} (xs : List X) (at : ℕ) (a b : X) → slice_set (slice_set xs at a) at b ≡ slice_set xs at b
set_again [] at a b = refl
set_again (y ∷ xs) zero a b = refl
set_again (y ∷ xs) (suc at) a b = ap (λ (l : List _). y ∷ l) (set_again xs at a b)

pub get_other : {X : Type 0} (xs : List X) (at place : ℕ) (x : X) → (place == at) ≡ false → slice_get (slice_set xs at x) place ≡ slice_get xs place
get_other [] at place x differs = refl
get_other (y ∷ xs) zero zero x differs = absurd (grind (arith, nat_tests, differs))
get_other (y ∷ xs) zero (suc place) x differs = refl
get_other (y ∷ xs) (suc at) zero x differs = refl
get_other (y ∷ xs) (suc at) (suc place) x differs = get_other xs at place x (further place at differs)
  where
    further : (a b : ℕ) → (suc a == suc b) ≡ false → (a == b) ≡ false
    further a b h = grind (arith, nat_tests, h)

-- the stores to which a packet was offered, before a store and behind it
pub offered_here : (stored : Stored) (front : List Store) (store : Store) (back : List Store)
    → offered_to stored (length front) (front ++ store ∷ back) ≡ map (offered stored) front ++ store ∷ back
offered_here stored front store back =
    ap (λ (l : List Store). map (offered stored) l ++ drop (length front) (front ++ store ∷ back)) (take_to front store back)
    ∙ ap (λ (l : List Store). map (offered stored) front ++ l) (drop_to front store back)

pub offered_next : (stored : Stored) (front : List Store) (store : Store) (back : List Store)
    → offered_to stored (suc (length front)) (front ++ store ∷ back) ≡ map (offered stored) front ++ offered stored store ∷ back
offered_next stored front store back =
    ap (λ (l : List Store). map (offered stored) l ++ drop (suc (length front)) (front ++ store ∷ back)) (take_past front store back)
    ∙ ap (λ (l : List Store). map (offered stored) (front ++ store ∷ []) ++ l) (drop_past front store back)
    ∙ split front
  where
    split : (front : List Store) → map (offered stored) (front ++ store ∷ []) ++ back ≡ map (offered stored) front ++ offered stored store ∷ back
    split [] = refl
    split (x ∷ front) = ap (λ (l : List Store). offered stored x ∷ l) (split front)

-- A store among others with identifiers of their own.

module _ (store : Store) (back : List Store) where
  other_name : (n : ℕ) (front : List Store) → is_new n (laws.identifiers (front ++ store ∷ back)) ≡ true → (n == store.identifier) ≡ false
  other_name n [] new = not-true (n == store.identifier) (and_parts (not (n == store.identifier)) (is_new n (laws.identifiers back)) new).0
  other_name n (x ∷ front) new = other_name n front (and_parts (not (n == x.identifier)) (is_new n (laws.identifiers (front ++ store ∷ back))) new).1

  pub first_here : (change : Store → Store) (front : List Store) → are_distinct (laws.identifiers (front ++ store ∷ back)) ≡ true
      → at_first (is_named store.identifier) change (front ++ store ∷ back) ≡ front ++ change store ∷ back
  first_here change [] distinct = rw (eq-eqb store.identifier store.identifier refl) refl
  first_here change (x ∷ front) distinct =
      let both = and_parts (is_new x.identifier (laws.identifiers (front ++ store ∷ back))) (are_distinct (laws.identifiers (front ++ store ∷ back))) distinct in
      rw (other_name x.identifier front both.0) (ap (λ (l : List Store). x ∷ l) (first_here change front both.1))

  pub find_here : (front : List Store) → are_distinct (laws.identifiers (front ++ store ∷ back)) ≡ true
      → find (is_named store.identifier) (front ++ store ∷ back) ≡ Some store
  find_here [] distinct = rw (eq-eqb store.identifier store.identifier refl) refl
  find_here (x ∷ front) distinct =
      let both = and_parts (is_new x.identifier (laws.identifiers (front ++ store ∷ back))) (are_distinct (laws.identifiers (front ++ store ∷ back))) distinct in
      rw (other_name x.identifier front both.0) (find_here front both.1)

-- and one of a directory

module _ (s : Listed) (back : List Listed) where
  other_listed : (n : ℕ) (front : List Listed) → is_new n (identifiers (front ++ s ∷ back)) ≡ true → (s.identifier == n) ≡ false
  other_listed n [] new =
      swapped n s.identifier (not-true (n == s.identifier) (and_parts (not (n == s.identifier)) (is_new n (identifiers back)) new).0)
  other_listed n (x ∷ front) new = other_listed n front (and_parts (not (n == x.identifier)) (is_new n (identifiers (front ++ s ∷ back))) new).1

  pub listed_here : (front : List Listed) → are_distinct (identifiers (front ++ s ∷ back)) ≡ true
      → find_store s.identifier (front ++ s ∷ back) ≡ Some s
  listed_here [] distinct = rw (eq-eqb s.identifier s.identifier refl) refl
  listed_here (x ∷ front) distinct =
      let both = and_parts (is_new x.identifier (identifiers (front ++ s ∷ back))) (are_distinct (identifiers (front ++ s ∷ back))) distinct in
      rw (other_listed x.identifier front both.0) (listed_here front both.1)

  pub put_here : (new : Listed) → new.identifier ≡ s.identifier → (front : List Listed) → are_distinct (identifiers (front ++ s ∷ back)) ≡ true
      → put_store new (front ++ s ∷ back) ≡ front ++ new ∷ back
  put_here new same [] distinct = rw (eq-eqb new.identifier s.identifier same) refl
  put_here new same (x ∷ front) distinct =
      let both = and_parts (is_new x.identifier (identifiers (front ++ s ∷ back))) (are_distinct (identifiers (front ++ s ∷ back))) distinct in
      rw (ap (λ (n : ℕ). n == x.identifier) same ∙ other_listed x.identifier front both.0) (ap (λ (l : List Listed). x ∷ l) (put_here new same front both.1))
