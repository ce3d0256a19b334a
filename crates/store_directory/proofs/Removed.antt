-- A store that goes, and what is kept of the others.
use Rattle.std.proofs.Common.{◌≡◌, ℕ, ◌≤◌, true, not, List, [], ◌∷◌, length, nat_eq, refl, sym, subst, arith}
use Rattle.std.specs.Prelude.{IsSome, None, Option, Some, slice_get}
use Rattle.std.specs.Option.{option_and_then}
use Rattle.std.specs.List.{All}
use Rattle.std.specs.Map.{remove_entry}
use Rattle.std.proofs.lemmas.Bool.{and_from, and_parts, cond_both, false≢true}
use Rattle.std.proofs.lemmas.List.Elements.{All-cons, All-head, All-tail}
use Rattle.store_directory.specs.Changes.{remove_store}
use Rattle.store_directory.specs.Directory.{Listed, are_distinct, find_store, identifiers, is_new, place_of, reserved_by, without_store}
use Rattle.store_directory.specs.Slots.{AreSlots, IsEntry, stores_of}
use Rattle.store_directory.proofs.Held.{Entries, stores-removed}
use Rattle.store_directory.proofs.Places.{absent-position, find-absent, find-first, first-position, some-first}

module _ (identifier : ℕ) where
  new-without : (n : ℕ) (stores : List Listed) → is_new n (identifiers stores) ≡ true → is_new n (identifiers (without_store identifier stores)) ≡ true
  new-without n [] new = new
  new-without n (s ∷ stores) new =
      let parts = and_parts (not (nat_eq n s.identifier)) (is_new n (identifiers stores)) new in
      let rest = new-without n stores parts.1 in
      cond_both (nat_eq identifier s.identifier) stores (s ∷ without_store identifier stores) (λ l. is_new n (identifiers l) ≡ true) (λ is. parts.1)
      (λ is. and_from (not (nat_eq n s.identifier)) (is_new n (identifiers (without_store identifier stores))) parts.0 rest)

  distinct-without : (stores : List Listed) → are_distinct (identifiers stores) ≡ true → are_distinct (identifiers (without_store identifier stores)) ≡ true
  distinct-without [] distinct = distinct
  distinct-without (s ∷ stores) distinct =
      let parts = and_parts (is_new s.identifier (identifiers stores)) (are_distinct (identifiers stores)) distinct in
      let rest = distinct-without stores parts.1 in
      cond_both (nat_eq identifier s.identifier) stores (s ∷ without_store identifier stores) (λ l. are_distinct (identifiers l) ≡ true) (λ is. parts.1)
      (λ is. and_from (is_new s.identifier (identifiers (without_store identifier stores))) (are_distinct (identifiers (without_store identifier stores)))
      (new-without s.identifier stores parts.0) rest)

  reserved-without : (stores : List Listed) → reserved_by (without_store identifier stores) ≤ reserved_by stores
  reserved-without [] = omega arith
  reserved-without (s ∷ stores) =
      let rest = reserved-without stores in
      cond_both (nat_eq identifier s.identifier) stores (s ∷ without_store identifier stores) (λ l. reserved_by l ≤ reserved_by (s ∷ stores)) (λ is. omega arith) (λ is. omega (arith, rest))

  each-removed : (es : Entries) → All IsEntry es → All IsEntry (remove_entry (nat_eq identifier) es)
  each-removed [] each = each
  each-removed (e ∷ es) each =
      let rest = each-removed es (All-tail IsEntry e es each) in
      cond_both (nat_eq identifier e.0) es (e ∷ remove_entry (nat_eq identifier) es) (λ l. All IsEntry l) (λ is. All-tail IsEntry e es each)
      (λ is. All-cons IsEntry e (remove_entry (nat_eq identifier) es) (All-head IsEntry e es each) rest)

  few-removed : (es : Entries) → length (remove_entry (nat_eq identifier) es) ≤ length es
  few-removed [] = omega arith
  few-removed (e ∷ es) =
      let rest = few-removed es in
      cond_both (nat_eq identifier e.0) es (e ∷ remove_entry (nat_eq identifier) es) (λ l. length l ≤ length (e ∷ es)) (λ is. omega arith) (λ is. omega (arith, rest))

  pub slots-removed : (es : Entries) → AreSlots es → AreSlots (remove_entry (nat_eq identifier) es)
  slots-removed es slots =
      let stores = stores-removed identifier es slots.each in
      record {
        few = omega (arith, few-removed es, slots.few);
        reserved = subst (λ l. reserved_by l ≤ 504) (sym stores) (omega (arith, reserved-without (stores_of es), slots.reserved));
        distinct = subst (λ l. are_distinct (identifiers l) ≡ true) (sym stores) (distinct-without (stores_of es) slots.distinct);
        each = each-removed es slots.each;
      }

pub none-removed : (identifier : ℕ) (stores : List Listed) → place_of identifier stores ≡ None → remove_store identifier stores ≡ None
none-removed identifier stores none = rw (find-absent identifier stores (absent-position (nat_eq identifier) (identifiers stores) none)) refl

some-placed : (identifier : ℕ) (stores : List Listed) → IsSome (place_of identifier stores) → IsSome (find_store identifier stores)
some-placed identifier stores some = by (place_of identifier stores) refl some
  where
    at : (i : ℕ) → place_of identifier stores ≡ Some i → IsSome (slice_get stores i)
    at i is = some-first (nat_eq identifier) stores i (first-position (nat_eq identifier) (identifiers stores) i is)

    by : (found : Option ℕ) → place_of identifier stores ≡ found → IsSome found → IsSome (find_store identifier stores)
    by None is some = absurd (false≢true some)
    by (Some i) is some =
        subst (λ (o : Option Listed). IsSome o) (sym (find-first identifier stores i (first-position (nat_eq identifier) (identifiers stores) i is))) (at i is)

pub some-removed : (identifier : ℕ) (stores : List Listed) → IsSome (place_of identifier stores) → remove_store identifier stores ≡ Some (without_store identifier stores)
some-removed identifier stores some = by (find_store identifier stores) (some-placed identifier stores some)
  where
    by : (found : Option Listed) → IsSome found → option_and_then (λ (s : Listed). Some (without_store identifier stores)) found ≡ Some (without_store identifier stores)
    by None some = absurd (false≢true some)
    by (Some s) some = refl
