-- Stores that may not stand, whatever stands behind them.
use Rattle.std.proofs.Common.{◌≡◌, ℕ, zero, suc, ◌+◌, ◌<◌, ◌≤◌, Bool, true, false, not, ◌&&◌, List, [], ◌∷◌, ◌++◌, length, nat_eq, refl, sym, ap, ◌∙◌, ⊎_elim, arith, length-append}
use Rattle.std.specs.Prelude.{IsSome, None, Option, Some, nat_le}
use Rattle.std.specs.List.{list_all}
use Rattle.std.proofs.lemmas.Bool.{and_left, and_right, cases_lt, eq-eqb, eqb-true, false≢true, lt-leb}
use Rattle.block_pool.specs.Sizes.{blocks_for_size}
use Rattle.store_directory.specs.Checkpoints.{are_lawful, is_lawful_listed}
use Rattle.store_directory.specs.Directory.{Listed, are_distinct, identifiers, is_new, place_of, reserved_by}
use Rattle.store_directory.proofs.Places.{IsFirst, first-position}
use Rattle.store_directory.proofs.Reserved.{reserved-append}

module _ (front : List Listed) (s : Listed) (rest : List Listed) where
  abbrev all : List Listed
  all = front ++ s ∷ rest

  by_listed : (b c d : Bool) → (false && b && c && d) ≡ false
  by_listed b c d = refl

  by_distinct : (a c d : Bool) → (a && false && c && d) ≡ false
  by_distinct true c d = refl
  by_distinct false c d = refl

  by_few : (a b d : Bool) → (a && b && false && d) ≡ false
  by_few true true d = refl
  by_few true false d = refl
  by_few false b d = refl

  by_reserved : (a b c : Bool) → (a && b && c && false) ≡ false
  by_reserved true true true = refl
  by_reserved true true false = refl
  by_reserved true false c = refl
  by_reserved false b c = refl

  not_all : (stores : List Listed) → is_lawful_listed s ≡ false → list_all is_lawful_listed (stores ++ s ∷ rest) ≡ false
  not_all [] no_store = and_left (is_lawful_listed s) (list_all is_lawful_listed rest) no_store
  not_all (t ∷ stores) no_store = and_right (is_lawful_listed t) (list_all is_lawful_listed (stores ++ s ∷ rest)) (not_all stores no_store)

  pub unlawful-store : is_lawful_listed s ≡ false → are_lawful all ≡ false
  unlawful-store no_store =
      ap (λ (test : Bool). test && are_distinct (identifiers all) && nat_le (length all) 32 && nat_le (reserved_by all) 504) (not_all front no_store)
      ∙ by_listed (are_distinct (identifiers all)) (nat_le (length all) 32) (nat_le (reserved_by all) 504)

  old-number : (number : ℕ) (stores : List Listed) → number ≡ s.identifier → is_new number (identifiers (stores ++ s ∷ rest)) ≡ false
  old-number number [] same =
      and_left (not (nat_eq number s.identifier)) (is_new number (identifiers rest)) (ap not (eq-eqb number s.identifier same))
  old-number number (t ∷ stores) same =
      and_right (not (nat_eq number t.identifier)) (is_new number (identifiers (stores ++ s ∷ rest))) (old-number number stores same)

  not_distinct : (stores : List Listed) (i : ℕ) → IsFirst (nat_eq s.identifier) (identifiers stores) i → are_distinct (identifiers (stores ++ s ∷ rest)) ≡ false
  not_distinct [] i first = absurd first
  not_distinct (t ∷ stores) zero first =
      and_left (is_new t.identifier (identifiers (stores ++ s ∷ rest))) (are_distinct (identifiers (stores ++ s ∷ rest)))
      (old-number t.identifier stores (sym (eqb-true s.identifier t.identifier first)))
  not_distinct (t ∷ stores) (suc i) first =
      and_right (is_new t.identifier (identifiers (stores ++ s ∷ rest))) (are_distinct (identifiers (stores ++ s ∷ rest))) (not_distinct stores i first.1)

  pub unlawful-again : IsSome (place_of s.identifier front) → are_lawful all ≡ false
  unlawful-again some = by (place_of s.identifier front) refl some
    where
      by : (found : Option ℕ) → place_of s.identifier front ≡ found → IsSome found → are_lawful all ≡ false
      by None is some = absurd (false≢true some)
      by (Some i) is some =
          ap (λ (test : Bool). list_all is_lawful_listed all && test && nat_le (length all) 32 && nat_le (reserved_by all) 504)
          (not_distinct front i (first-position (nat_eq s.identifier) (identifiers front) i is))
          ∙ by_distinct (list_all is_lawful_listed all) (nat_le (length all) 32) (nat_le (reserved_by all) 504)

  pub unlawful-many : 32 ≤ length front → are_lawful all ≡ false
  unlawful-many many =
      ap (λ (test : Bool). list_all is_lawful_listed all && are_distinct (identifiers all) && test && nat_le (reserved_by all) 504)
      (lt-leb (length all) 32 (omega (arith, many, length-append front (s ∷ rest))))
      ∙ by_few (list_all is_lawful_listed all) (are_distinct (identifiers all)) (nat_le (reserved_by all) 504)

  pub unlawful-blocks : 504 < reserved_by front + blocks_for_size s.size → are_lawful all ≡ false
  unlawful-blocks many =
      ap (λ (test : Bool). list_all is_lawful_listed all && are_distinct (identifiers all) && nat_le (length all) 32 && test)
      (lt-leb (reserved_by all) 504 (omega (arith, many, reserved-append front (s ∷ rest))))
      ∙ by_reserved (list_all is_lawful_listed all) (are_distinct (identifiers all)) (nat_le (length all) 32)

  pub unlawful-place : ((length front < 32) × (reserved_by front + blocks_for_size s.size ≤ 504) → ⊥) → are_lawful all ≡ false
  unlawful-place full = ⊎_elim
      (λ few. ⊎_elim unlawful-blocks (λ within. absurd (full (few, within))) (cases_lt 504 (reserved_by front + blocks_for_size s.size)))
      unlawful-many
      (cases_lt (length front) 32)
