-- Where the first line of the octets that are held ends.
use Rattle.std.specs.Prelude.{◌≡◌, ◌≢◌, ◌⊎◌, ◌||◌, nat_lt, ◌++◌, ℕ, Bool, true, false, List, [], ◌∷◌, length, take, Contains, IsTrue}
use Rattle.session_text.specs.declared.find.Found.{Found}
use Rattle.session_text.specs.declared.find.Found.TheVariants as found

-- Whether so many octets without an LF begin a line that is too long, whatever comes behind them, where the text
-- has room for these: they are more than 131,200, or one of them lies past the limit of the text.
abbrev pub is_past : (room held : ℕ) → Bool
is_past room held = nat_lt 131200 held || nat_lt room held

-- The octets that are held tell where their first line ends, whatever comes behind them.
abbrev pub IsFound : (room : ℕ) → List ℕ → Type 0
IsFound room held = Contains held 10 ⊎ (is_past room (length held) ≡ true)

-- what was found in the octets that are held, behind which these are left
abbrev pub Finds : (room : ℕ) → List ℕ → Bool → List ℕ → Found → Type 0
Finds room held told left (found.Line count) =
    ((rest : List ℕ) × (held ≡ take count held ++ 10 ∷ rest)) × ¬ (Contains (take count held) 10)
Finds room held told left (found.Last count) =
    (held ≢ []) × ¬ (Contains held 10) × (count ≡ length held) × (IsTrue told → left ≡ [])
Finds room held told left found.Past =
    (held ≢ []) × ¬ (Contains held 10) × (is_past room (length held) ≡ true)
Finds room held told left found.End = (held ≡ []) × (IsTrue told → left ≡ [])
Finds room held told left found.Failed = ¬ (Contains held 10)

-- how many takes a search makes at most that give it no octet
abbrev pub empty_takes_of : Found → ℕ
empty_takes_of (found.Line count) = 0
empty_takes_of (found.Last count) = 1
empty_takes_of found.Past = 0
empty_takes_of found.End = 1
empty_takes_of found.Failed = 1

abbrev pub OnFailed : Found → Type 0 → Type 0
OnFailed (found.Line count) P = Unit {0}
OnFailed (found.Last count) P = Unit {0}
OnFailed found.Past P = Unit {0}
OnFailed found.End P = Unit {0}
OnFailed found.Failed P = P

abbrev pub UnlessFailed : Found → Type 0 → Type 0
UnlessFailed (found.Line count) P = P
UnlessFailed (found.Last count) P = P
UnlessFailed found.Past P = P
UnlessFailed found.End P = P
UnlessFailed found.Failed P = Unit {0}
