-- What a writer holds after a write that failed.
use Rattle.std.specs.Prelude.{ℕ, List, Option}
use Rattle.std.specs.Io.KnownBytes.{Appends}
use Rattle.board.specs.Moments.{IsPrefixOf}

-- Known octets grow by a prefix of these.
pub record AppendsFront (before after : Option (List ℕ)) (bytes : List ℕ) : Type 0 where
  pub front : List ℕ
  pub prefix : IsPrefixOf front bytes
  pub gained : Appends before after front
