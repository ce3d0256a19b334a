-- When a row may be put among stores.
use Rattle.std.proofs.Common.{◌≡◌, ℕ, zero, suc, ◌+◌, ◌<◌, ◌≤◌, Bool, true, false, not, ◌&&◌, List, [], ◌∷◌, ◌++◌, length, nat_eq, slice_set, refl, sym, ap, ⊎_elim, ◌∙◌, arith, length-append}
use Rattle.std.specs.Prelude.{IfSome, None, Option, Some, is_some, nat_le, slice_get, ⊤}
use Rattle.std.specs.Option.{option_and_then}
use Rattle.std.proofs.lemmas.Bool.{cases_lt, false≢true, and_from, and_parts, eqb-false, eqb-true, false_from_ne_true, le-leb, lt-leb, not_from_false}
use Rattle.block_pool.specs.Sizes.{blocks_for_size}
use Rattle.store_directory.specs.Changes.{allowed, listed_by, may_stand, put_row}
use Rattle.store_directory.specs.Directory.{Listed, are_distinct, find_store, identifiers, is_new, place_of, put_store, reserved_by, trimmed}
use Rattle.store_directory.specs.Options.{given}
use Rattle.store_directory.specs.Rows.{is_lawful_row}
use Rattle.store_directory.specs.declared.row.Row.{Row}
use Rattle.store_directory.proofs.Places.{IsAbsent, absent-position, first-position, put-absent, put-first, some-first}
use Rattle.store_directory.proofs.Reserved.{reserved-pushed}

-- All that is asked of a store among others.
pub record MayStand (new : Listed) (stores : List Listed) : Type 0 where
  pub lawful : is_lawful_row new.row ≡ true
  pub few : length stores ≤ 32
  pub reserved : reserved_by stores ≤ 504
  pub links : length new.links ≤ blocks_for_size new.size

may-stand : (new : Listed) (stores : List Listed) → MayStand new stores → may_stand new stores ≡ true
may-stand new stores may =
    rw (may.lawful, le-leb (length stores) 32 may.few, le-leb (reserved_by stores) 504 may.reserved, le-leb (length new.links) (blocks_for_size new.size) may.links) refl

allowed-is : (new : Listed) (stores : List Listed) → may_stand new stores ≡ true → allowed new stores ≡ Some stores
allowed-is new stores may = ap (λ (test : Bool). option_and_then (λ (u : ⊤). Some stores) (given test)) may

allowed-not : (new : Listed) (stores : List Listed) → may_stand new stores ≡ false → allowed new stores ≡ None
allowed-not new stores may = ap (λ (test : Bool). option_and_then (λ (u : ⊤). Some stores) (given test)) may

-- a row that makes this store gives these stores
pub put-is : (row : Row) (stores : List Listed) (new : Listed) (after : List Listed) → listed_by row (find_store row.identifier stores) ≡ new → put_store new stores ≡ after → MayStand new after
    → put_row row stores ≡ Some after
put-is row stores new after listed put may =
    ap (λ (l : Listed). allowed l (put_store l stores)) listed ∙ ap (allowed new) put ∙ allowed-is new after (may-stand new after may)

-- Why a row may not be put.

module _ (row : Row) (stores : List Listed) (new : Listed) (after : List Listed) (listed : listed_by row (find_store row.identifier stores) ≡ new) (put : put_store new stores ≡ after) where
  refused : may_stand new after ≡ false → put_row row stores ≡ None
  refused may = ap (λ (l : Listed). allowed l (put_store l stores)) listed ∙ ap (allowed new) put ∙ allowed-not new after may

  pub crowded : 32 < length after → put_row row stores ≡ None
  crowded many =
      refused (
      ap (λ (test : Bool). is_lawful_row new.row && test && nat_le (reserved_by after) 504 && nat_le (length new.links) (blocks_for_size new.size)) (lt-leb (length after) 32 many)
      ∙ none_of (is_lawful_row new.row) (nat_le (reserved_by after) 504) (nat_le (length new.links) (blocks_for_size new.size))
      )
    where
      none_of : (a c d : Bool) → (a && false && c && d) ≡ false
      none_of true c d = refl
      none_of false c d = refl

  pub overbooked : 504 < reserved_by after → put_row row stores ≡ None
  overbooked many =
      refused (
      ap (λ (test : Bool). is_lawful_row new.row && nat_le (length after) 32 && test && nat_le (length new.links) (blocks_for_size new.size)) (lt-leb (reserved_by after) 504 many)
      ∙ none_of (is_lawful_row new.row) (nat_le (length after) 32) (nat_le (length new.links) (blocks_for_size new.size))
      )
    where
      none_of : (a b d : Bool) → (a && b && false && d) ≡ false
      none_of true true d = refl
      none_of true false d = refl
      none_of false b d = refl

  pub linked : blocks_for_size new.size < length new.links → put_row row stores ≡ None
  linked many =
      refused (
      ap (λ (test : Bool). is_lawful_row new.row && nat_le (length after) 32 && nat_le (reserved_by after) 504 && test) (lt-leb (length new.links) (blocks_for_size new.size) many)
      ∙ none_of (is_lawful_row new.row) (nat_le (length after) 32) (nat_le (reserved_by after) 504)
      )
    where
      none_of : (a b c : Bool) → (a && b && c && false) ≡ false
      none_of true true true = refl
      none_of true true false = refl
      none_of true false c = refl
      none_of false b c = refl

pub unlawful : (row : Row) (stores : List Listed) → is_lawful_row row ≡ false → put_row row stores ≡ None
unlawful row stores is =
    let new = listed_by row (find_store row.identifier stores) in
    let after = put_store new stores in
    allowed-not new after (ap (λ (test : Bool). test && nat_le (length after) 32 && nat_le (reserved_by after) 504 && nat_le (length new.links) (blocks_for_size new.size)) is)

pub trimmed-none : (first count : ℕ) → trimmed first count [] ≡ []
trimmed-none first zero = refl
trimmed-none first (suc count) = refl

pub swapped : (a b : ℕ) → nat_eq a b ≡ false → nat_eq b a ≡ false
swapped a b apart = false_from_ne_true (nat_eq b a) (λ is. eqb-false a b apart (sym (eqb-true b a is)))

-- one more identifier, which no other store has

new-pushed : (n : ℕ) (stores : List Listed) (s : Listed) → is_new n (identifiers stores) ≡ true → nat_eq s.identifier n ≡ false → is_new n (identifiers (stores ++ s ∷ [])) ≡ true
new-pushed n [] s new apart = and_from (not (nat_eq n s.identifier)) true (not_from_false (nat_eq n s.identifier) (swapped s.identifier n apart)) refl
new-pushed n (t ∷ stores) s new apart =
    let parts = and_parts (not (nat_eq n t.identifier)) (is_new n (identifiers stores)) new in
    and_from (not (nat_eq n t.identifier)) (is_new n (identifiers (stores ++ s ∷ []))) parts.0 (new-pushed n stores s parts.1 apart)

pub distinct-pushed : (stores : List Listed) (s : Listed) → are_distinct (identifiers stores) ≡ true → IsAbsent (nat_eq s.identifier) (identifiers stores) → are_distinct (identifiers (stores ++ s ∷ [])) ≡ true
distinct-pushed [] s distinct absent = refl
distinct-pushed (t ∷ stores) s distinct absent =
    let parts = and_parts (is_new t.identifier (identifiers stores)) (are_distinct (identifiers stores)) distinct in
    and_from (is_new t.identifier (identifiers (stores ++ s ∷ []))) (are_distinct (identifiers (stores ++ s ∷ [])))
    (new-pushed t.identifier stores s parts.0 absent.0) (distinct-pushed stores s parts.1 absent.1)

-- a row in the place of the one of a store: the blocks that are reserved then
reserved-set : (stores : List Listed) (i : ℕ) (s new : Listed) → slice_get stores i ≡ Some s → reserved_by (slice_set stores i new) + blocks_for_size s.size ≡ reserved_by stores + blocks_for_size new.size
reserved-set [] i s new there = absurd cc
reserved-set (t ∷ stores) zero s new there =
    let same : blocks_for_size t.size ≡ blocks_for_size s.size = size s there in
    omega (arith, same)
  where
    size : (u : Listed) → Some t ≡ Some u → blocks_for_size t.size ≡ blocks_for_size u.size
    size u is = cc
reserved-set (t ∷ stores) (suc i) s new there = omega (arith, reserved-set stores i s new there)

-- the store that a row makes among these
abbrev made : Row → List Listed → Listed
made row stores = listed_by row (find_store row.identifier stores)

pub no-room : (row : Row) (stores : List Listed) (i : ℕ) → place_of row.identifier stores ≡ Some i
    → IfSome (slice_get stores i) (λ s. 504 + blocks_for_size s.size < reserved_by stores + blocks_for_size row.size) → put_row row stores ≡ None
no-room row stores i place many = by (slice_get stores i) refl many
  where
    by : (found : Option Listed) → slice_get stores i ≡ found → IfSome found (λ s. 504 + blocks_for_size s.size < reserved_by stores + blocks_for_size row.size) → put_row row stores ≡ None
    by None is many =
        let some = some-first (nat_eq row.identifier) stores i (first-position (nat_eq row.identifier) (identifiers stores) i place) in
        absurd (false≢true (ap is_some (sym is) ∙ some))
    by (Some s) is many =
        let first = first-position (nat_eq row.identifier) (identifiers stores) i place in
        let after = reserved-set stores i s (made row stores) is in
        overbooked row stores (made row stores) (put_store (made row stores) stores) refl refl (omega (arith, many, after, ap reserved_by (put-first (made row stores) stores i first)))

pub no-place : (row : Row) (stores : List Listed) → place_of row.identifier stores ≡ None → ((length stores < 32) × (reserved_by stores + blocks_for_size row.size ≤ 504) → ⊥) → put_row row stores ≡ None
no-place row stores none full = ⊎_elim
    fewer
    (λ many. crowded row stores (made row stores) (stores ++ made row stores ∷ []) refl put (omega (arith, many, length-append stores (made row stores ∷ []))))
    (cases_lt (length stores) 32)
  where
    put : put_store (made row stores) stores ≡ stores ++ made row stores ∷ []
    put = put-absent (made row stores) stores (absent-position (nat_eq row.identifier) (identifiers stores) none)

    fewer : length stores < 32 → put_row row stores ≡ None
    fewer few = ⊎_elim
        (λ many. overbooked row stores (made row stores) (stores ++ made row stores ∷ []) refl put (omega (arith, many, reserved-pushed stores (made row stores))))
        (λ within. absurd (full (few, within)))
        (cases_lt 504 (reserved_by stores + blocks_for_size row.size))
