-- Lines by their words.
use Rattle.std.specs.Prelude.{◌≡◌, ◌≤◌, ⊤, ℕ, List, [], ◌∷◌, ◌++◌, length, take}
use Rattle.std.specs.Fmt.{decimal}
use Rattle.listing.specs.declared.words.Word.{Word}
use Rattle.listing.specs.declared.words.Word.TheVariants.{Name, Number}

abbrev pub text_of : Word → List ℕ
text_of (Name text) = text.now
text_of (Number number) = decimal number

-- a name has at most 20 octets
abbrev pub IsShort : Word → Type 0
IsShort (Name text) = length text.now ≤ 20
IsShort (Number number) = ⊤

-- words, each behind a space
abbrev pub spaced : List (List ℕ) → List ℕ
spaced [] = []
spaced (word ∷ words) = 32 ∷ word ++ spaced words

-- A buffer holds a line in front, and is as long as it was.
pub record HoldsLine (old new : List ℕ) (size : ℕ) (line : List ℕ) : Type 0 where
  pub front : take size new ≡ line
  pub within : size ≤ length new
  pub same : length new ≡ length old
