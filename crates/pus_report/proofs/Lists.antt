-- Rows of one size: the octets of one more, and how long they are behind one octet with their number.
use Rattle.std.proofs.Common.{◌≡◌, ℕ, ◌+◌, ◌*◌, List, length, arith}
use Rattle.octet_fields.proofs.Rows.{length-rows}
pub use Rattle.octet_fields.proofs.Rows.{flat_map-more}
use Rattle.pst_model.specs.Reports.{listed_octets}

pub length-listed : {X : Type 0} (octets : X → List ℕ) (size : ℕ) (each : (row : X) → length (octets row) ≡ size) (rows : List X)
    → length (listed_octets octets rows) ≡ 1 + size * length rows
length-listed octets size each rows = omega (arith, length-rows octets size each rows)
