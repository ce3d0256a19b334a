-- What stands at a place of a list.
use Rattle.std.proofs.Common.{◌≡◌, ℕ, zero, suc, ◌<◌, ◌≤◌, List, [], ◌∷◌, ◌++◌, length, take, Option, Some, None, refl, ap, subst, arith}
use Rattle.std.specs.Prelude.{IfSome, slice_get}
use Rattle.std.proofs.lemmas.Option.{none-some, same_Some}
use Rattle.store_load.proofs.Eachs.{EachIs}

-- a value, where there is one

pub if_some : {X : Type 0} (o : Option X) (P : X → Type 0) → ((x : X) → o ≡ Some x → P x) → IfSome o P
if_some None P f = tt
if_some (Some x) P f = f x refl

pub of_some : {X : Type 0} (P : X → Type 0) (o : Option X) (x : X) → IfSome o P → o ≡ Some x → P x
of_some P None x h is = absurd (none-some x is)
of_some P (Some y) x h is = subst P (same_Some y x is) h

-- an element, where the place is within the list
pub some_at : {X : Type 0} (xs : List X) (at : ℕ) → at < length xs → (x : X) × (slice_get xs at ≡ Some x)
some_at [] at within = absurd (omega arith)
some_at (x ∷ xs) zero within = (x, refl)
some_at (x ∷ xs) (suc at) within = some_at xs at (omega arith)

pub each_at : {X : Type 0} (P : X → Type 0) (xs : List X) (at : ℕ) (x : X) → EachIs P xs → slice_get xs at ≡ Some x → P x
each_at P [] at x each is = absurd (none-some x is)
each_at P (y ∷ ys) zero x each is = subst P (same_Some y x is) each.0
each_at P (y ∷ ys) (suc at) x each is = each_at P ys at x each.1 is

-- the elements up to a place, and the one there
pub take_one : {X : Type 0} (xs : List X) (at : ℕ) (x : X) → slice_get xs at ≡ Some x → take (suc at) xs ≡ take at xs ++ x ∷ []
take_one [] at x is = absurd (none-some x is)
take_one (y ∷ ys) zero x is = ap (λ y. y ∷ []) (same_Some y x is)
take_one (y ∷ ys) (suc at) x is = ap (λ l. y ∷ l) (take_one ys at x is)

pub take_whole : {X : Type 0} (xs : List X) (n : ℕ) → length xs ≤ n → take n xs ≡ xs
take_whole [] zero all = refl
take_whole [] (suc n) all = refl
take_whole (x ∷ xs) zero all = absurd (omega arith)
take_whole (x ∷ xs) (suc n) all = ap (λ l. x ∷ l) (take_whole xs n (omega arith))
