-- What stands at a place of a list, as a list of one or none.
use Rattle.std.proofs.Common.{◌≡◌, ℕ, zero, suc, ◌+◌, ◌<◌, ◌≤◌, List, [], ◌∷◌, ◌++◌, length, take, drop, get_or, Option, Some, None, refl, sym, ◌∙◌, ap, arith}
use Rattle.std.specs.List.{flat_map, sum_by}
use Rattle.std.specs.Option.{option_to_list}
use Rattle.std.specs.Prelude.{slice_get}
use Rattle.std.proofs.Math.Seq.{take-suc}
use Rattle.std.proofs.lemmas.Grind.{flat_map-append}
use Rattle.std.proofs.lemmas.List.{append-nil, take-append-drop, take-take}
use Rattle.std.proofs.lemmas.List.Sums.{sum_by-append, sum_by-take-le}
use Rattle.board.specs.Moments.{IsPrefixOf}
use Rattle.listing.specs.Parts.{one_at}

-- the first elements, and the one behind them
pub take-one : {X : Type 0} (xs : List X) (at : ℕ) → take (suc at) xs ≡ take at xs ++ one_at xs at
take-one [] zero = refl
take-one [] (suc at) = refl
take-one (x ∷ xs) zero = refl
take-one (x ∷ xs) (suc at) = ap (λ l. x ∷ l) (take-one xs at)

pub flat-one : {X : Type 0} (f : X → List ℕ) (xs : List X) (at : ℕ)
    → flat_map f (take (suc at) xs) ≡ flat_map f (take at xs) ++ flat_map f (one_at xs at)
flat-one f xs at = ap (flat_map f) (take-one xs at) ∙ flat_map-append f (take at xs) (one_at xs at)

pub sum-one : {X : Type 0} (f : X → ℕ) (xs : List X) (at : ℕ)
    → sum_by f (take (suc at) xs) ≡ sum_by f (take at xs) + sum_by f (one_at xs at)
sum-one f xs at = ap (sum_by f) (take-one xs at) ∙ sum_by-append f (take at xs) (one_at xs at)

-- two texts of one element
pub flat-both : {X : Type 0} (f g h : X → List ℕ) (xs : List X) (at : ℕ) → ((x : X) → h x ≡ f x ++ g x)
    → flat_map h (one_at xs at) ≡ flat_map f (one_at xs at) ++ flat_map g (one_at xs at)
flat-both {X = X} f g h xs at split = by (slice_get xs at)
  where
    by : (o : Option X) → flat_map h (option_to_list o) ≡ flat_map f (option_to_list o) ++ flat_map g (option_to_list o)
    by None = refl
    by (Some x) =
        append-nil (h x) ∙ split x
        ∙ ap (λ (l : List ℕ). l ++ g x) (sym (append-nil (f x))) ∙ ap (λ (l : List ℕ). (f x ++ []) ++ l) (sym (append-nil (g x)))

-- The text of what stands at a place, if a relation of texts holds of each element.
pub front-one : {X : Type 0} (f g : X → List ℕ) (xs : List X) (at : ℕ) → ((x : X) → IsPrefixOf (f x) (g x))
    → IsPrefixOf (flat_map f (one_at xs at)) (flat_map g (one_at xs at))
front-one {X = X} f g xs at within = by (slice_get xs at)
  where
    by : (o : Option X) → IsPrefixOf (flat_map f (option_to_list o)) (flat_map g (option_to_list o))
    by None = ([], refl)
    by (Some x) =
        let (rest, is) = within x in
        (rest, ap (λ (l : List ℕ). l ++ rest) (append-nil (f x)) ∙ is ∙ sym (append-nil (g x)))

pub front-append : (front rest all : List ℕ) → all ≡ front ++ rest → IsPrefixOf front all
front-append front rest all is = (rest, sym is)

-- fewer elements, at the front
pub front-take : {X : Type 0} (f : X → List ℕ) (xs : List X) (k n : ℕ) → k ≤ n → IsPrefixOf (flat_map f (take k xs)) (flat_map f (take n xs))
front-take f xs k n le =
    let split : take k xs ++ drop k (take n xs) ≡ take n xs =
    ap (λ l. l ++ drop k (take n xs)) (sym (take-take k n xs le)) ∙ take-append-drop k (take n xs) in
    (flat_map f (drop k (take n xs)), sym (flat_map-append f (take k xs) (drop k (take n xs))) ∙ ap (flat_map f) split)

pub sum-take : {X : Type 0} (f : X → ℕ) (xs : List X) (k n : ℕ) → k ≤ n → sum_by f (take k xs) ≤ sum_by f (take n xs)
sum-take f xs k n le =
    let same = ap (sum_by f) (take-take k n xs le) in
    let less = sum_by-take-le f (take n xs) k in
    omega (arith, same, less)

-- the first elements, and the next one by its place
pub flat-get : {X : Type 0} (f : X → List ℕ) (xs : List X) (at : ℕ) (d : X) → at < length xs
    → flat_map f (take (at + 1) xs) ≡ flat_map f (take at xs) ++ f (get_or xs at d)
flat-get f xs at d within =
    let next : at + 1 ≡ suc at = omega arith in
    ap (λ (n : ℕ). flat_map f (take n xs)) next ∙ ap (flat_map f) (take-suc xs at d within)
    ∙ flat_map-append f (take at xs) (get_or xs at d ∷ [])
    ∙ ap (λ (l : List ℕ). flat_map f (take at xs) ++ l) (append-nil (f (get_or xs at d)))
