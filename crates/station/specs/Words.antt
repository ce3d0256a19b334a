-- The words of a session.
use Rattle.std.specs.Prelude.{◌≡◌, ◌⊎◌, ℕ, if◌then◌else◌, List, [], ◌∷◌, map, codes, Option, Some, None}
use Rattle.std.specs.Str.{bytes_eq}
use Rattle.std.specs.String.{string_bytes}
use Rattle.std.specs.declared.string.String.{String}
use Rattle.std.specs.declared.alloc.Global.{Global}
use Rattle.std.specs.declared.vec.Vec.{Vec}
use Rattle.station.specs.Numbers.{in_range, number_named}

abbrev pub texts_of : Vec (String Global) Global → List (List ℕ)
texts_of words = map string_bytes words.items

-- Each is one word alone.

abbrev pub AreRun : List (List ℕ) → Type 0
AreRun words = words ≡ codes "run" ∷ []

abbrev pub AreFresh : List (List ℕ) → Type 0
AreFresh words = words ≡ codes "fresh" ∷ []

abbrev pub AreFormat : List (List ℕ) → Type 0
AreFormat words = words ≡ codes "format" ∷ []

abbrev pub AreList : List (List ℕ) → Type 0
AreList words = words ≡ codes "list" ∷ []

abbrev pub both : Option ℕ → Option ℕ → Option (ℕ × ℕ)
both (Some first) (Some second) = Some (first, second)
both (Some first) None = None
both None second = None

-- The number and the count of arrivals of the traffic that words ask for: `generate` and two numbers.
abbrev pub traffic_named : List (List ℕ) → Option (ℕ × ℕ)
traffic_named [] = None
traffic_named (word ∷ []) = None
traffic_named (word ∷ number ∷ []) = None
traffic_named (word ∷ number ∷ count ∷ []) =
    if bytes_eq word (codes "generate")
    then both (number_named number) (in_range 1 100000 (number_named count)) else None
traffic_named (word ∷ number ∷ count ∷ other ∷ others) = None

abbrev pub AreGenerate : (number count : ℕ) → List (List ℕ) → Type 0
AreGenerate number count words = traffic_named words ≡ Some (number, count)

-- words that carry out the text of the source
abbrev pub AreOfText : List (List ℕ) → Type 0
AreOfText words = AreRun words ⊎ AreFresh words

abbrev pub AreKnown : List (List ℕ) → Type 0
AreKnown words = AreOfText words ⊎ AreFormat words ⊎ AreList words
    ⊎ ((number : ℕ) × (count : ℕ) × AreGenerate number count words)
