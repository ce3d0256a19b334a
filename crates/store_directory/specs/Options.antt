-- Steps that may fail.
use Rattle.std.specs.Prelude.{Bool, true, false, Option, Some, None, ⊤}
use Rattle.std.specs.Option.{option_and_then}

-- a step with the value of the one before it, and none where that has none
infixl 10 ◌>>=◌
abbrev pub ◌>>=◌ : {A B : Type 0} → Option A → (A → Option B) → Option B
found >>= next = option_and_then next found

-- goes on only where the test holds
abbrev pub given : Bool → Option ⊤
given true = Some tt
given false = None
