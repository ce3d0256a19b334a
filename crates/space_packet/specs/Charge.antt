-- What packets take of a store.
use Rattle.std.specs.Prelude.{ℕ, ◌+◌, ◌/◌}

-- The charge of a packet of this length: the pages of 256 octets that it and 16 octets of record
-- head fill, the last one maybe in part.
abbrev pub charge_of : ℕ → ℕ
charge_of length = (length + 16 + 255) / 256
