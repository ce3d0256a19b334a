-- What a link that breaks within a send has sent of it.
use Rattle.std.specs.Prelude.{◌/◌, ℕ, List, length, take}

-- half of the octets, rounded down
abbrev pub half_of : List ℕ → List ℕ
half_of bytes = take (length bytes / 2) bytes
