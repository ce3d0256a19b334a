-- A function that may fail, over a list.
use Rattle.std.specs.Prelude.{List, [], ◌∷◌, Option, Some}
use Rattle.store_directory.specs.Options.{◌>>=◌}

-- its values, if each element has one
abbrev pub each : {A B : Type 0} → (A → Option B) → List A → Option (List B)
each f [] = Some []
each f (x ∷ xs) = do
  y ← f x
  ys ← each f xs
  Some (y ∷ ys)
