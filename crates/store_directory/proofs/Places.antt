-- The place of a store by its identifier, and what stands there.
use Rattle.std.proofs.Common.{◌≡◌, ℕ, zero, suc, ◌+◌, ◌<◌, Bool, true, false, cond, not, List, [], ◌∷◌, ◌++◌, length, nat_eq, slice_set, refl, sym, ap, subst, ◌∙◌, arith}
use Rattle.std.specs.Prelude.{IsSome, Option, Some, None, nat_lt, slice_get, position, if◌then◌else◌}
use Rattle.std.specs.List.{prefix_len}
use Rattle.std.specs.Option.{option_map}
use Rattle.std.proofs.lemmas.Bool.{cond-false, cond-true, eq-eqb, eqb-true, le-ltb, lt-ltb, ltb-false, ltb-true}
use Rattle.store_directory.specs.Directory.{Listed, find_store, identifiers, put_store}

-- a position, element by element

position-here : (p : ℕ → Bool) (x : ℕ) (xs : List ℕ) → p x ≡ true → position p (x ∷ xs) ≡ Some 0
position-here p x xs passes = rw passes (cond-true (nat_lt 0 (suc (length xs))) (Some 0) None (lt-ltb 0 (suc (length xs)) (omega arith)))

position-later : (p : ℕ → Bool) (x : ℕ) (xs : List ℕ) → p x ≡ false → position p (x ∷ xs) ≡ option_map suc (position p xs)
position-later p x xs fails = rw fails (by (nat_lt n (length xs)) refl)
  where
    n : ℕ
    n = prefix_len (λ (y : ℕ). not (p y)) xs

    by : (test : Bool) → nat_lt n (length xs) ≡ test
        → cond (nat_lt (1 + n) (suc (length xs))) (Some (1 + n)) None ≡ option_map suc (cond (nat_lt n (length xs)) (Some n) None)
    by true is =
        let below = ltb-true n (length xs) is in
        let more : 1 + n ≡ suc n = omega arith in
        rw (is, more) (cond-true (nat_lt (suc n) (suc (length xs))) (Some (suc n)) None (lt-ltb (suc n) (suc (length xs)) (omega arith)))
    by false is =
        let past = ltb-false n (length xs) is in
        rw is (cond-false (nat_lt (1 + n) (suc (length xs))) (Some (1 + n)) None (le-ltb (1 + n) (suc (length xs)) (omega arith)))

-- Where an element is the first that passes, and where none passes.

abbrev pub IsFirst : (ℕ → Bool) → List ℕ → ℕ → Type 0
IsFirst p [] i = ⊥
IsFirst p (x ∷ xs) zero = p x ≡ true
IsFirst p (x ∷ xs) (suc i) = (p x ≡ false) × IsFirst p xs i

abbrev pub IsAbsent : (ℕ → Bool) → List ℕ → Type 0
IsAbsent p [] = Unit {0}
IsAbsent p (x ∷ xs) = (p x ≡ false) × IsAbsent p xs

abbrev Stands : (ℕ → Bool) → List ℕ → Option ℕ → Type 0
Stands p xs None = IsAbsent p xs
Stands p xs (Some i) = IsFirst p xs i

-- what a position says
stands : (p : ℕ → Bool) (xs : List ℕ) → Stands p xs (position p xs)
stands p [] = tt
stands p (x ∷ xs) = by (p x) refl (stands p xs)
  where
    later : (found : Option ℕ) → p x ≡ false → Stands p xs found → Stands p (x ∷ xs) (option_map suc found)
    later None fails rest = (fails, rest)
    later (Some i) fails rest = (fails, rest)

    by : (test : Bool) → p x ≡ test → Stands p xs (position p xs) → Stands p (x ∷ xs) (position p (x ∷ xs))
    by true passes rest = subst (Stands p (x ∷ xs)) (sym (position-here p x xs passes)) passes
    by false fails rest = subst (Stands p (x ∷ xs)) (sym (position-later p x xs fails)) (later (position p xs) fails rest)

pub first-position : (p : ℕ → Bool) (xs : List ℕ) (i : ℕ) → position p xs ≡ Some i → IsFirst p xs i
first-position p xs i is = subst (Stands p xs) is (stands p xs)

pub absent-position : (p : ℕ → Bool) (xs : List ℕ) → position p xs ≡ None → IsAbsent p xs
absent-position p xs is = subst (Stands p xs) is (stands p xs)

pub position-absent : (p : ℕ → Bool) (xs : List ℕ) → IsAbsent p xs → position p xs ≡ None
position-absent p [] absent = refl
position-absent p (x ∷ xs) absent = position-later p x xs absent.0 ∙ ap (option_map suc) (position-absent p xs absent.1)

-- The store of an identifier, by its place.

pub find-first : (identifier : ℕ) (stores : List Listed) (i : ℕ) → IsFirst (nat_eq identifier) (identifiers stores) i → find_store identifier stores ≡ slice_get stores i
find-first identifier [] i first = absurd first
find-first identifier (s ∷ stores) zero first = cond-true (nat_eq identifier s.identifier) (Some s) (find_store identifier stores) first
find-first identifier (s ∷ stores) (suc i) first =
    cond-false (nat_eq identifier s.identifier) (Some s) (find_store identifier stores) first.0 ∙ find-first identifier stores i first.1

pub find-absent : (identifier : ℕ) (stores : List Listed) → IsAbsent (nat_eq identifier) (identifiers stores) → find_store identifier stores ≡ None
find-absent identifier [] absent = refl
find-absent identifier (s ∷ stores) absent =
    cond-false (nat_eq identifier s.identifier) (Some s) (find_store identifier stores) absent.0 ∙ find-absent identifier stores absent.1

pub put-first : (new : Listed) (stores : List Listed) (i : ℕ) → IsFirst (nat_eq new.identifier) (identifiers stores) i → put_store new stores ≡ slice_set stores i new
put-first new [] i first = absurd first
put-first new (s ∷ stores) zero first = cond-true (nat_eq new.identifier s.identifier) (new ∷ stores) (s ∷ put_store new stores) first
put-first new (s ∷ stores) (suc i) first =
    cond-false (nat_eq new.identifier s.identifier) (new ∷ stores) (s ∷ put_store new stores) first.0 ∙ ap (λ l. s ∷ l) (put-first new stores i first.1)

pub put-absent : (new : Listed) (stores : List Listed) → IsAbsent (nat_eq new.identifier) (identifiers stores) → put_store new stores ≡ stores ++ new ∷ []
put-absent new [] absent = refl
put-absent new (s ∷ stores) absent =
    cond-false (nat_eq new.identifier s.identifier) (new ∷ stores) (s ∷ put_store new stores) absent.0 ∙ ap (λ l. s ∷ l) (put-absent new stores absent.1)

pub own-first : (identifier : ℕ) (stores : List Listed) (i : ℕ) (s : Listed) → IsFirst (nat_eq identifier) (identifiers stores) i → slice_get stores i ≡ Some s → identifier ≡ s.identifier
own-first identifier [] i s first there = absurd first
own-first identifier (t ∷ stores) zero s first there = eqb-true identifier t.identifier first ∙ own s there
  where
    own : (u : Listed) → Some t ≡ Some u → t.identifier ≡ u.identifier
    own u is = cc
own-first identifier (t ∷ stores) (suc i) s first there = own-first identifier stores i s first.1 there

pub some-first : (p : ℕ → Bool) (stores : List Listed) (i : ℕ) → IsFirst p (identifiers stores) i → IsSome (slice_get stores i)
some-first p [] i first = absurd first
some-first p (s ∷ stores) zero first = refl
some-first p (s ∷ stores) (suc i) first = some-first p stores i first.1

pub within-first : (p : ℕ → Bool) (stores : List Listed) (i : ℕ) → IsFirst p (identifiers stores) i → i < length stores
within-first p [] i first = absurd first
within-first p (s ∷ stores) zero first = omega arith
within-first p (s ∷ stores) (suc i) first = omega (arith, within-first p stores i first.1)

-- the last store

pub find-last : (new : Listed) (stores : List Listed) → IsAbsent (nat_eq new.identifier) (identifiers stores) → find_store new.identifier (stores ++ new ∷ []) ≡ Some new
find-last new [] absent = cond-true (nat_eq new.identifier new.identifier) (Some new) None (eq-eqb new.identifier new.identifier refl)
find-last new (s ∷ stores) absent =
    cond-false (nat_eq new.identifier s.identifier) (Some s) (find_store new.identifier (stores ++ new ∷ [])) absent.0 ∙ find-last new stores absent.1

pub put-again : (old new : Listed) (stores : List Listed) → new.identifier ≡ old.identifier → IsAbsent (nat_eq new.identifier) (identifiers stores) → put_store new (stores ++ old ∷ []) ≡ stores ++ new ∷ []
put-again old new [] same absent = cond-true (nat_eq new.identifier old.identifier) (new ∷ []) (old ∷ new ∷ []) (eq-eqb new.identifier old.identifier same)
put-again old new (s ∷ stores) same absent =
    cond-false (nat_eq new.identifier s.identifier) (new ∷ stores ++ old ∷ []) (s ∷ put_store new (stores ++ old ∷ [])) absent.0
    ∙ ap (λ (l : List Listed). s ∷ l) (put-again old new stores same absent.1)

-- a store with another identifier behind the others
pub find-other : (identifier : ℕ) (new : Listed) (stores : List Listed) → nat_eq identifier new.identifier ≡ false → find_store identifier (stores ++ new ∷ []) ≡ find_store identifier stores
find-other identifier new [] other = cond-false (nat_eq identifier new.identifier) (Some new) None other
find-other identifier new (s ∷ stores) other = ap (λ (o : Option Listed). if nat_eq identifier s.identifier then Some s else o) (find-other identifier new stores other)
