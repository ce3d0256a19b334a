-- Commands, as contracts see them.
use Rattle.std.specs.Prelude.{ℕ, List}

-- A packet arrives, a ground request arrives, the downlink has room for one packet, or nothing is
-- to be done. Moments are numbers of 1/65,536 seconds.
pub data Command : Type 0 where
  Arrival : (moment : ℕ) (packet : List ℕ) → Command
  Request : (moment : ℕ) (packet : List ℕ) → Command
  Grant : (moment : ℕ) → Command
  Idle : (moment : ℕ) → Command
