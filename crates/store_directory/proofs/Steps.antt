-- Steps that may fail, taken apart.
use Rattle.std.proofs.Common.{◌≡◌, true, Option, Some, None, refl}
use Rattle.std.specs.Prelude.{is_some}
use Rattle.std.proofs.lemmas.Option.{none-some}
use Rattle.store_directory.specs.Options.{◌>>=◌}

-- a step that has a value, and the next one with it
pub some_then : {A B : Type 0} (found : Option A) (next : A → Option B) (value : B) → (found >>= next) ≡ Some value
    → (x : A) × (found ≡ Some x) × (next x ≡ Some value)
some_then None next value is = absurd (none-some value is)
some_then (Some x) next value is = (x, refl, is)

-- what is made of a value is some where the value is
pub is_some-made : {A B : Type 0} (make : A → B) (found : Option A) → is_some (found >>= λ x. Some (make x)) ≡ is_some found
is_some-made make None = refl
is_some-made make (Some x) = refl

pub some-from_is : {A : Type 0} (found : Option A) → is_some found ≡ true → (x : A) × (found ≡ Some x)
some-from_is None is = absurd cc
some-from_is (Some x) is = (x, refl)
