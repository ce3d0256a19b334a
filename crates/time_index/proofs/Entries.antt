-- Entries in a ring.
use Rattle.std.proofs.Common.{◌≡◌, ℕ, zero, suc, ◌+◌, ◌-◌, ◌*◌, ◌<◌, ◌≤◌, Bool, true, false, cond, List, [], ◌∷◌, ◌++◌, length, drop, take, get_or, refl, ap, ◌∙◌, subst, sym, arith, length-append}
use Rattle.std.specs.Prelude.{IfSome, count_by, slice_get, slice_set, Some}
use Rattle.std.specs.List.Sorted.{IsPartitionPoint}
use Rattle.std.proofs.Math.Seq.{drop-append_seam}
use Rattle.std.proofs.lemmas.Option.{get_or_from_slice_get, slice_get-get_or}
use Rattle.std.proofs.lemmas.List.Sorted.{IsNonDecreasingBy-drop}
use Rattle.space_packet.specs.Charge.{charge_of}
use Rattle.time_index.specs.declared.entry.Entry.{Entry}
use Rattle.time_index.specs.TimeIndex.{HasLengthAt, HaveLengths, IsInOrder, pages_of, stamp_of}
use Rattle.std.specs.List.{AllWithin}
use Rattle.std.proofs.lemmas.List.Sums.{sum_by-cons, sum_by-le, sum_by-set, sum_by_more, sum_by_more_le}
use Rattle.circular_buffer.specs.Buffer.{keep_last}

-- with room for it, an item behind the others pushes none out
pub keep_last-push : {X : Type 0} (n : ℕ) (xs : List X) (y : X) → length xs < n
    → keep_last n (xs ++ y ∷ []) ≡ xs ++ y ∷ []
keep_last-push n xs y h =
    let none : length (xs ++ y ∷ []) - n ≡ 0 = omega (arith, length-append xs (y ∷ [])) in
    ap (λ j. drop j (xs ++ y ∷ [])) none

-- what holds of an item, from the look-up at its place
pub at_place : {X : Type 0} (P : X → Type 0) (xs : List X) (i : ℕ) (d : X)
    → i < length xs → IfSome (slice_get xs i) P → P (get_or xs i d)
at_place P xs i d within h = subst (λ o. IfSome o P) (slice_get-get_or xs i d within) h

-- a list whose items pass a test up to a place and not from it on
pub count_by-split : {X : Type 0} (p : X → Bool) (xs : List X) (i : ℕ) → i ≤ length xs
    → AllWithin (λ x. p x ≡ true) xs 0 i → AllWithin (λ x. p x ≡ false) xs i (length xs)
    → count_by p xs ≡ i
count_by-split p [] zero le low high = refl
count_by-split p [] (suc i) le low high = absurd (omega arith)
count_by-split p (x ∷ xs) zero le low high =
    let head : p x ≡ false = high 0 x (omega arith) (omega arith) in
    let rest = count_by-split p xs zero (omega arith)
    (λ k d a b. low (suc k) d (omega arith) (omega arith))
    (λ k d a b. high (suc k) d (omega arith) (omega arith)) in
    let step : count_by p (x ∷ xs) ≡ cond (p x) 1 0 + count_by p xs =
    sum_by-cons (λ x. cond (p x) 1 0) x xs in
    step ∙ rw head (omega (arith, rest))
count_by-split p (x ∷ xs) (suc i) le low high =
    let head : p x ≡ true = low 0 x (omega arith) (omega arith) in
    let rest = count_by-split p xs i (omega arith)
    (λ k d a b. low (suc k) d (omega arith) (omega arith))
    (λ k d a b. high (suc k) d (omega arith) (omega arith)) in
    let step : count_by p (x ∷ xs) ≡ cond (p x) 1 0 + count_by p xs =
    sum_by-cons (λ x. cond (p x) 1 0) x xs in
    step ∙ rw head (omega (arith, rest))

-- what is counted where those that pass a test stand in front
pub count_by-point : {X : Type 0} (p : X → Bool) (xs : List X) (i : ℕ) → i ≤ length xs
    → IsPartitionPoint (λ x. p x ≡ true) (λ x. p x ≡ false) xs i → i ≡ count_by p xs
count_by-point p xs i within point = sym (count_by-split p xs i within point.0 point.1)

-- the second of two runs that are in order together is in order
pub in_order-back : (xs ys zs : List Entry) → xs ++ ys ≡ zs → IsInOrder zs → IsInOrder ys
in_order-back xs ys zs is up =
    subst IsInOrder (ap (drop (length xs)) (sym is) ∙ drop-append_seam xs ys)
    (IsNonDecreasingBy-drop stamp_of (length xs) zs up)

-- what one entry costs
abbrev pub cost : Entry → ℕ
cost entry = charge_of entry.length

-- at most 257 pages an entry
pub pages_of-le : (es : List Entry) → HaveLengths es → pages_of es ≤ length es * 257
pages_of-le es h = sum_by-le cost 257 es (λ k d within. let n = h k d within in omega arith)

-- an entry in place of one of the same length costs the same
pub pages_of-set : (es : List Entry) (i : ℕ) (e : Entry) → i < length es
    → HasLengthAt es i e.length → pages_of (slice_set es i e) ≡ pages_of es
pages_of-set es i e within same =
    let eq : cost (get_or es i e) ≡ cost e =
    ap charge_of (at_place (λ b. b.length ≡ e.length) es i e within same) in
    omega (arith, sum_by-set cost es i e e within, eq)

module _ (es : List Entry) (i : ℕ) (e : Entry) (at : slice_get es i ≡ Some e) (within : i < length es) where
  same_cost : cost (get_or es i e) ≡ cost e
  same_cost = ap cost (get_or_from_slice_get es i e e at)

  -- one entry more
  pub pages_of_more : pages_of (take (i + 1) es) ≡ pages_of (take i es) + cost e
  pages_of_more = omega (arith, same_cost, sum_by_more cost es i e within)

  -- and it is within the whole sum
  pub pages_of_more_le : pages_of (take i es) + cost e ≤ pages_of es
  pages_of_more_le = omega (arith, same_cost, sum_by_more_le cost es i e within)
