-- Which sessions may make the file of their device.
use Rattle.std.specs.Prelude.{ℕ, ◌||◌, Bool, false, List, [], ◌∷◌, codes}
use Rattle.std.specs.Str.{bytes_eq}

-- those whose first word is `fresh`, `format` or `generate`, since they begin with a format
abbrev pub makes_file : List (List ℕ) → Bool
makes_file [] = false
makes_file (word ∷ words) =
    bytes_eq word (codes "fresh") || bytes_eq word (codes "format") || bytes_eq word (codes "generate")
