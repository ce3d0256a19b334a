-- What stands at the front of a half, as the reader of checkpoints says it.
use Rattle.std.specs.Prelude.{◌≡◌, ◌⊎◌, ℕ, ◌<◌, List, Option, Some, None, Result, Ok, Err}
use Rattle.commit_gate.specs.Entries.{length_in}

-- the length of the checkpoint is 0 or above 20,476
abbrev pub HasNoCheckpoint : (area : ℕ → List ℕ) → Type 0
HasNoCheckpoint area = (length_in (area 0) ≡ 0) ⊎ (20476 < length_in (area 0))

-- The pages that are read for a checkpoint: its own, or one where there is none. 80 at most.
abbrev pub pages_read : {A E : Type 0} → Result (Option (A × ℕ)) E → ℕ
pages_read (Ok (Some read)) = read.1
pages_read (Ok None) = 1
pages_read (Err fault) = 80
