-- Parts of lists: what a filter keeps at one end of a list, and of two tests of which one holds.
use Rattle.std.proofs.Common.{◌≡◌, ℕ, suc, ◌+◌, ◌-◌, ◌<◌, ◌≤◌, ◌⊎◌, inl, inr, Bool, true, false, not, ◌||◌, List, [], ◌∷◌, ◌++◌, length, get_or, take, drop, filter, refl, sym, ap, ◌∙◌, arith, append-nil, length-take, length-drop, drop-cons}
use Rattle.std.specs.List.{All, AllPairs, AllWithin, insert, list_any, remove}
use Rattle.std.proofs.lemmas.Bool.{cases_Bool, cases_eq, cases_lt, false_from_ne_true}
use Rattle.std.proofs.lemmas.List.{get_or-drop, get_or-take, take-append-drop}
use Rattle.std.proofs.lemmas.List.Edits.{get_or-insert_above, get_or-insert_at, get_or-insert_below, length-insert}
use Rattle.std.proofs.lemmas.List.Elements.{All-append, All-cons, All-drop, All-head, All-tail, All-take, filter-append}
use Rattle.std.proofs.lemmas.List.Folds.{list_any_at}

pub or_comm : (a b : Bool) → (a || b) ≡ (b || a)
or_comm true true = refl
or_comm true false = refl
or_comm false true = refl
or_comm false false = refl

pub or_left_comm : (a b c : Bool) → (a || (b || c)) ≡ (b || (a || c))
or_left_comm true true c = refl
or_left_comm true false c = refl
or_left_comm false true c = refl
or_left_comm false false c = refl

or_assoc : (a b c : Bool) → ((a || b) || c) ≡ (a || (b || c))
or_assoc true b c = refl
or_assoc false b c = refl

module _ {X : Type 0} where
  All-front : (P : X → Type 0) (xs : List X) (i : ℕ) → i ≤ length xs → AllWithin P xs 0 i → All P (take i xs)
  All-front P xs i within h k d lt =
      let below : k < i = omega (arith, length-take i xs) in
      rw (get_or-take i xs k d below) (h k d (omega arith) below)

  All-back : (P : X → Type 0) (xs : List X) (i : ℕ) → AllWithin P xs i (length xs) → All P (drop i xs)
  All-back P xs i h k d lt =
      let inside : i + k < length xs = omega (arith, length-drop i xs) in
      rw (get_or-drop i xs k d) (h (i + k) d (omega arith) inside)

  filter_all : (test : X → Bool) (xs : List X) → All (λ x. test x ≡ true) xs → filter test xs ≡ xs
  filter_all test [] h = refl
  filter_all test (x ∷ xs) h =
      let here : test x ≡ true = All-head (λ x. test x ≡ true) x xs h in
      let rest = filter_all test xs (All-tail (λ x. test x ≡ true) x xs h) in
      rw here (ap (λ l. x ∷ l) rest)

  filter_none : (test : X → Bool) (xs : List X) → All (λ x. test x ≡ false) xs → filter test xs ≡ []
  filter_none test [] h = refl
  filter_none test (x ∷ xs) h =
      let here : test x ≡ false = All-head (λ x. test x ≡ false) x xs h in
      rw here (filter_none test xs (All-tail (λ x. test x ≡ false) x xs h))

  filter_parts : (test : X → Bool) (xs : List X) (i : ℕ)
      → filter test xs ≡ filter test (take i xs) ++ filter test (drop i xs)
  filter_parts test xs i =
      ap (filter test) (sym (take-append-drop i xs)) ∙ filter-append test (take i xs) (drop i xs)

  -- a test that holds up to a place, and from there on fails
  pub filter_front : (test : X → Bool) (xs : List X) (i : ℕ) → i ≤ length xs → AllWithin (λ x. test x ≡ true) xs 0 i
      → AllWithin (λ x. test x ≡ false) xs i (length xs) → filter test xs ≡ take i xs
  filter_front test xs i within low high =
      let front = filter_all test (take i xs) (All-front (λ x. test x ≡ true) xs i within low) in
      let back = filter_none test (drop i xs) (All-back (λ x. test x ≡ false) xs i high) in
      filter_parts test xs i ∙ (λ j. front j ++ back j) ∙ append-nil (take i xs)

  -- a test that fails up to a place, and from there on holds
  pub filter_back : (test : X → Bool) (xs : List X) (i : ℕ) → i ≤ length xs → AllWithin (λ x. test x ≡ false) xs 0 i
      → AllWithin (λ x. test x ≡ true) xs i (length xs) → filter test xs ≡ drop i xs
  filter_back test xs i within low high =
      let front = filter_none test (take i xs) (All-front (λ x. test x ≡ false) xs i within low) in
      let back = filter_all test (drop i xs) (All-back (λ x. test x ≡ true) xs i high) in
      filter_parts test xs i ∙ (λ j. front j ++ back j)

  -- a test that fails at one place alone
  pub filter_remove : (test : X → Bool) (xs : List X) (i : ℕ) (d : X) → i < length xs → test (get_or xs i d) ≡ false
      → AllWithin (λ x. test x ≡ true) xs 0 i → AllWithin (λ x. test x ≡ true) xs (i + 1) (length xs)
      → filter test xs ≡ remove xs i
  filter_remove test xs i d within here low high =
      let front = filter_all test (take i xs) (All-front (λ x. test x ≡ true) xs i (omega arith) low) in
      let behind : AllWithin (λ x. test x ≡ true) xs (suc i) (length xs) = λ k d l h. high k d (omega arith) h in
      let back = filter_all test (drop (suc i) xs) (All-back (λ x. test x ≡ true) xs (suc i) behind) in
      let at : filter test (drop i xs) ≡ drop (suc i) xs = rw (drop-cons xs i d within, here) back in
      filter_parts test xs i ∙ (λ j. front j ++ at j)

  -- of two tests one holds at each element, and the other fails
  pub length_parts : (f g : X → Bool) (xs : List X) → All (λ x. f x ≡ not (g x)) xs
      → length (filter f xs) + length (filter g xs) ≡ length xs
  length_parts f g [] h = refl
  length_parts f g (x ∷ xs) h =
      let here : f x ≡ not (g x) = All-head (λ x. f x ≡ not (g x)) x xs h in
      let rest = length_parts f g xs (All-tail (λ x. f x ≡ not (g x)) x xs h) in
      elim (cases_Bool (g x)) [
        | inl e ↦ rw (here, e) (omega (arith, rest))
        | inr e ↦ rw (here, e) (omega (arith, rest))
      ]

  pub any_parts : (c : X → Bool) (f g : X → Bool) (xs : List X) → All (λ x. f x ≡ not (g x)) xs
      → (list_any c (filter f xs) || list_any c (filter g xs)) ≡ list_any c xs
  any_parts c f g [] h = refl
  any_parts c f g (x ∷ xs) h =
      let here : f x ≡ not (g x) = All-head (λ x. f x ≡ not (g x)) x xs h in
      let rest = any_parts c f g xs (All-tail (λ x. f x ≡ not (g x)) x xs h) in
      let front = list_any c (filter f xs) in
      let back = list_any c (filter g xs) in
      elim (cases_Bool (g x)) [
        | inl e ↦ rw (here, e) (or_left_comm front (c x) back ∙ ap (λ b. c x || b) rest)
        | inr e ↦ rw (here, e) (or_assoc (c x) front back ∙ ap (λ b. c x || b) rest)
      ]

  -- what a test that holds nowhere in a list says of each element
  pub All-from_none : (test : X → Bool) (xs : List X) → list_any test xs ≡ false → All (λ x. test x ≡ false) xs
  All-from_none test xs none k d lt =
      false_from_ne_true _ (λ h. let some = list_any_at test xs k d lt h in cc)

  -- what stands at a place after an insert
  at_insert : (xs : List X) (i : ℕ) (y : X) (k : ℕ) (d : X) → i ≤ length xs
      → ((k < i) × (get_or (insert xs i y) k d ≡ get_or xs k d))
      ⊎ (((k ≡ i) × (get_or (insert xs i y) k d ≡ y)) ⊎ ((i < k) × (get_or (insert xs i y) k d ≡ get_or xs (k - 1) d)))
  at_insert xs i y k d l =
      elim (cases_lt k i) [
        | inl b ↦ inl (b, get_or-insert_below xs i y d k b l)
        | inr a ↦
            elim (cases_eq k i) [
              | inl e ↦ inr (inl (e, ap (λ j. get_or (insert xs i y) j d) e ∙ get_or-insert_at xs i y d l))
              | inr n ↦
                  let back : k ≡ k - 1 + 1 = omega arith in
                  let above = get_or-insert_above xs i y d (k - 1) (omega arith) l in
                  inr (inr (omega arith, ap (λ j. get_or (insert xs i y) j d) back ∙ above))
            ]
      ]

  both : (R : X → X → Type 0) (a b x y : X) → a ≡ x → b ≡ y → R x y → R a b
  both R a b x y p q h = rw (p, q) h

  pub AllPairs-insert : (R : X → X → Type 0) (xs : List X) (i : ℕ) (y : X) → AllPairs R xs → i ≤ length xs
      → AllWithin (λ x. R x y) xs 0 i → AllWithin (λ x. R y x) xs i (length xs) → AllPairs R (insert xs i y)
  AllPairs-insert R xs i y pairs l low high a b d lt end =
      let long = length-insert xs i y l in
      elim (at_insert xs i y a d l) [
        | inl p ↦
            elim (at_insert xs i y b d l) [
              | inl q ↦ both R _ _ _ _ p.1 q.1 (pairs a b d lt (omega arith))
              | inr (inl q) ↦ both R _ _ _ _ p.1 q.1 (low a d (omega arith) p.0)
              | inr (inr q) ↦ both R _ _ _ _ p.1 q.1 (pairs a (b - 1) d (omega arith) (omega arith))
            ]
        | inr (inl p) ↦
            elim (at_insert xs i y b d l) [
              | inl q ↦ absurd (omega arith)
              | inr (inl q) ↦ absurd (omega arith)
              | inr (inr q) ↦ both R _ _ _ _ p.1 q.1 (high (b - 1) d (omega arith) (omega arith))
            ]
        | inr (inr p) ↦
            elim (at_insert xs i y b d l) [
              | inl q ↦ absurd (omega arith)
              | inr (inl q) ↦ absurd (omega arith)
              | inr (inr q) ↦ both R _ _ _ _ p.1 q.1 (pairs (a - 1) (b - 1) d (omega arith) (omega arith))
            ]
      ]

  pub All-insert : (P : X → Type 0) (xs : List X) (i : ℕ) (y : X) → All P xs → P y → All P (insert xs i y)
  All-insert P xs i y all here =
      All-append P (take i xs) (y ∷ drop i xs) (All-take P i xs all) (All-cons P y (drop i xs) here (All-drop P i xs all))
