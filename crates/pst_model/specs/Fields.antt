-- The fields of a line: what stands between its runs of spaces and tabs.
use Rattle.std.specs.Prelude.{◌≡◌, ◌≢◌, ◌⊎◌, ◌==◌, ◌||◌, ℕ, Bool, true, false, if◌then◌else◌, List, [], ◌∷◌, ◌++◌, filter, slice_index, All}

-- blanks are the space and the tab
abbrev pub is_blank : ℕ → Bool
is_blank octet = octet == 32 || octet == 9

abbrev pub IsBlank : ℕ → Type 0
IsBlank octet = is_blank octet ≡ true

abbrev pub IsSolid : ℕ → Type 0
IsSolid octet = is_blank octet ≡ false

-- A line begins with blanks, or none, then the field, and then the rest, which is empty or begins
-- with a blank.
pub record BeginsWith (field line rest : List ℕ) : Type 0 where
  pub blanks : List ℕ
  pub split : line ≡ blanks ++ (field ++ rest)
  pub before : All IsBlank blanks
  pub some : field ≢ []
  pub solid : All IsSolid field
  pub behind : (rest ≡ []) ⊎ IsBlank (slice_index rest 0)

-- These are the fields of the line: a blank at least stands between two of them, and nothing but
-- blanks in front of the first and behind the last.
abbrev pub AreFields : List (List ℕ) → List ℕ → Type 0
AreFields [] line = All IsBlank line
AreFields (field ∷ fields) line =
    (rest : List ℕ) × BeginsWith field line rest × AreFields fields rest

-- The same as a function of the line, which computes: its pieces between single blanks, of which
-- some may be empty, and among them the fields.

abbrev pub in_first : ℕ → List (List ℕ) → List (List ℕ)
in_first octet [] = (octet ∷ []) ∷ []
in_first octet (piece ∷ pieces) = (octet ∷ piece) ∷ pieces

abbrev pub pieces_of : List ℕ → List (List ℕ)
pieces_of [] = [] ∷ []
pieces_of (octet ∷ line) =
    if is_blank octet then [] ∷ pieces_of line else in_first octet (pieces_of line)

abbrev pub is_field : List ℕ → Bool
is_field [] = false
is_field (octet ∷ piece) = true

abbrev pub fields_of : List ℕ → List (List ℕ)
fields_of line = filter is_field (pieces_of line)
