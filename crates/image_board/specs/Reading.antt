-- What a reader has left.
use Rattle.std.specs.Prelude.{ℕ, List, [], Option, unwrap_or}

-- the octets that a reader has left, where they are known
abbrev pub octets_left : Option (List ℕ) → List ℕ
octets_left known = unwrap_or known []
