-- The store of an identifier, by its place, and its index.
use Rattle.std.proofs.Common.{◌≡◌, ◌+◌, ◌<◌, ℕ, zero, suc, List, [], ◌∷◌, ◌++◌, drop, take, Some, None, length, nat_eq, slice_set, refl, sym, ◌∙◌, ap, arith}
use Rattle.std.specs.Prelude.{IfSome, get_or, slice_get}
use Rattle.std.proofs.lemmas.Bool.{cond-false, cond-true}
use Rattle.std.proofs.lemmas.Option.{none-some, same_Some, slice_get-get_or}
use Rattle.request_laws.specs.Changing.{changed_for, index_for, put_by, without_for}
use Rattle.store_directory.specs.Changes.{Put}
use Rattle.store_directory.specs.Directory.{Listed, find_store, identifiers, place_of}
use Rattle.store_directory.specs.declared.row.Row.{Row}
use Rattle.store_directory.proofs.Places.{IsAbsent, IsFirst, absent-position, find-absent, find-first, first-position}
use Rattle.time_index.specs.TimeIndex.{TimeIndex}
use Rattle.vault.proofs.Places.{of_some, some_at}

pub store_absent : (identifier : ℕ) (stores : List Listed) → None ≡ place_of identifier stores → find_store identifier stores ≡ None
store_absent identifier stores is =
    find-absent identifier stores (absent-position (nat_eq identifier) (identifiers stores) (sym is))

pub record IsFoundAt (identifier at : ℕ) (stores : List Listed) : Type 0 where
  pub s : Listed
  pub found : find_store identifier stores ≡ Some s
  pub there : slice_get stores at ≡ Some s

pub store_found : (identifier at : ℕ) (stores : List Listed) → Some at ≡ place_of identifier stores → at < length stores → IsFoundAt identifier at stores
store_found identifier at stores is within =
    let (s, there) = some_at stores at within in
    record {
      s = s;
      found = find-first identifier stores at (first-position (nat_eq identifier) (identifiers stores) at (sym is)) ∙ there;
      there = there;
    }

-- the index in the place of the store of an identifier
pub index_first : (identifier : ℕ) (stores : List Listed) (indexes : List TimeIndex) (at : ℕ) (index : TimeIndex) → IsFirst (nat_eq identifier) (identifiers stores) at
    → slice_get indexes at ≡ Some index → index_for identifier stores indexes ≡ index
index_first identifier [] indexes at index first there = absurd first
index_first identifier (s ∷ stores) [] at index first there = absurd (none-some index there)
index_first identifier (s ∷ stores) (i ∷ indexes) zero index first there =
    cond-true (nat_eq identifier s.identifier) i (index_for identifier stores indexes) first ∙ same_Some i index there
index_first identifier (s ∷ stores) (i ∷ indexes) (suc at) index first there =
    cond-false (nat_eq identifier s.identifier) i (index_for identifier stores indexes) first.0 ∙ index_first identifier stores indexes at index first.1 there

-- the lists with another element in that place, or without it

pub changed_at : {X : Type 0} (identifier : ℕ) (next : X → X) (stores : List Listed) (xs : List X) (at : ℕ) (x : X) → IsFirst (nat_eq identifier) (identifiers stores) at
    → slice_get xs at ≡ Some x → changed_for identifier next stores xs ≡ slice_set xs at (next x)
changed_at identifier next [] xs at x first there = absurd first
changed_at identifier next (s ∷ stores) [] at x first there = absurd (none-some x there)
changed_at identifier next (s ∷ stores) (y ∷ xs) zero x first there =
    cond-true (nat_eq identifier s.identifier) (next y ∷ xs) (y ∷ changed_for identifier next stores xs) first ∙ ap (λ (z : _). next z ∷ xs) (same_Some y x there)
changed_at identifier next (s ∷ stores) (y ∷ xs) (suc at) x first there =
    cond-false (nat_eq identifier s.identifier) (next y ∷ xs) (y ∷ changed_for identifier next stores xs) first.0
    ∙ ap (λ (l : List _). y ∷ l) (changed_at identifier next stores xs at x first.1 there)

pub without_at : {X : Type 0} (identifier : ℕ) (stores : List Listed) (xs : List X) (at : ℕ) → IsFirst (nat_eq identifier) (identifiers stores) at → at < length xs
    → without_for identifier stores xs ≡ take at xs ++ drop (at + 1) xs
without_at {X} identifier stores xs at first within =
    from stores xs at first within ∙ ap (λ (n : ℕ). take at xs ++ drop n xs) (more at)
  where
    more : (n : ℕ) → suc n ≡ n + 1
    more n = omega arith

    from : (stores : List Listed) (xs : List X) (at : ℕ) → IsFirst (nat_eq identifier) (identifiers stores) at → at < length xs → without_for identifier stores xs ≡ take at xs ++ drop (suc at) xs
    from [] xs at first within = absurd first
    from (s ∷ stores) [] at first within = absurd (omega arith)
    from (s ∷ stores) (y ∷ xs) zero first within = cond-true (nat_eq identifier s.identifier) xs (y ∷ without_for identifier stores xs) first
    from (s ∷ stores) (y ∷ xs) (suc at) first within =
        cond-false (nat_eq identifier s.identifier) xs (y ∷ without_for identifier stores xs) first.0 ∙ ap (λ (l : List X). y ∷ l) (from stores xs at first.1 (omega arith))

-- and as they are where no store has the identifier

pub changed_none : {X : Type 0} (identifier : ℕ) (next : X → X) (stores : List Listed) (xs : List X) → None ≡ place_of identifier stores → changed_for identifier next stores xs ≡ xs
changed_none {X} identifier next stores xs is = from stores xs (absent-position (nat_eq identifier) (identifiers stores) (sym is))
  where
    from : (stores : List Listed) (xs : List X) → IsAbsent (nat_eq identifier) (identifiers stores) → changed_for identifier next stores xs ≡ xs
    from [] [] none = refl
    from [] (y ∷ xs) none = refl
    from (s ∷ stores) [] none = refl
    from (s ∷ stores) (y ∷ xs) none =
        cond-false (nat_eq identifier s.identifier) (next y ∷ xs) (y ∷ changed_for identifier next stores xs) none.0 ∙ ap (λ (l : List X). y ∷ l) (from stores xs none.1)

pub without_none : {X : Type 0} (identifier : ℕ) (stores : List Listed) (xs : List X) → None ≡ place_of identifier stores → without_for identifier stores xs ≡ xs
without_none {X} identifier stores xs is = from stores xs (absent-position (nat_eq identifier) (identifiers stores) (sym is))
  where
    from : (stores : List Listed) (xs : List X) → IsAbsent (nat_eq identifier) (identifiers stores) → without_for identifier stores xs ≡ xs
    from [] [] none = refl
    from [] (y ∷ xs) none = refl
    from (s ∷ stores) [] none = refl
    from (s ∷ stores) (y ∷ xs) none =
        cond-false (nat_eq identifier s.identifier) xs (y ∷ without_for identifier stores xs) none.0 ∙ ap (λ (l : List X). y ∷ l) (from stores xs none.1)

-- the put of what is made of the row of that store by that index
pub put_at : (next : TimeIndex → Row → Row) (identifier at : ℕ) (stores : List Listed) (indexes : List TimeIndex) (index : TimeIndex) (row made : Row)
    → Some at ≡ place_of identifier stores → at < length stores → length indexes ≡ length stores → index ≡ get_or indexes at index
    → IfSome (slice_get stores at) (λ (s : Listed). row ≡ s.row) → made ≡ next index row
    → Some (Put made) ≡ put_by (next (index_for identifier stores indexes)) (find_store identifier stores)
put_at next identifier at stores indexes index row made place within as_many index_is row_is made_is =
    let is = store_found identifier at stores place within in
    let here = of_some (λ (s : Listed). row ≡ s.row) (slice_get stores at) is.s row_is is.there in
    let there : slice_get indexes at ≡ Some index = slice_get-get_or indexes at index (omega (arith, within, as_many)) ∙ ap Some (sym index_is) in
    let own = index_first identifier stores indexes at index (first-position (nat_eq identifier) (identifiers stores) at (sym place)) there in
    ap (λ (r : Row). Some (Put r)) (made_is ∙ ap (next index) here)
    ∙ ap (λ (i : TimeIndex). Some (Put (next i is.s.row))) (sym own)
    ∙ ap (put_by (next (index_for identifier stores indexes))) (sym is.found)
