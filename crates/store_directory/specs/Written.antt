-- Stores while they are written one after another.
use Rattle.std.specs.Prelude.{◌≡◌, ℕ, ◌+◌, List, length, take}
use Rattle.octet_fields.specs.Fields.{Writes}
use Rattle.store_directory.specs.Checkpoints.{stores_octets}
use Rattle.store_directory.specs.Directory.{Listed}

-- so many of them are written, and the place is the one behind them
pub record WritesStores (stores : List Listed) (done : ℕ) (old new : List ℕ) (at place : ℕ) : Type 0 where
  pub behind : place ≡ at + length (stores_octets (take done stores))
  pub written : Writes old new at (stores_octets (take done stores))
