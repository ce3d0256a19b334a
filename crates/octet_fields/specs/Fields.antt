-- Number fields in a list of octets.
use Rattle.std.specs.Prelude.{◌≡◌, ◌≤◌, ℕ, ◌+◌, List, length, drop}
use Rattle.std.specs.List.{splice}
use Rattle.byteorder.specs.Endian.{big_number}
pub use Rattle.byteorder.specs.Endian.{big_bytes}

-- the number in the n octets at the place `at`
abbrev pub field : ℕ → ℕ → List ℕ → ℕ
field n at xs = big_number n (drop at xs)

-- New is old with ys written at the place `at`, which has room for them: the octets in front of it
-- and behind ys stay.
pub record Writes (old new : List ℕ) (at : ℕ) (ys : List ℕ) : Type 0 where
  pub room : at + length ys ≤ length old
  pub after : new ≡ splice old at (at + length ys) ys
