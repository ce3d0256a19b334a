-- What a board means whose link breaks within a send, and what its calls change.
use Rattle.std.specs.Prelude.{◌≡◌, ◌⊎◌, ◌+◌, ◌++◌, ℕ, Bool, true, List, Option, Some, None, min}
use Rattle.board.specs.declared.memory.MemBoard.{MemBoard}
use Rattle.board.specs.Counts.{Counts}
use Rattle.board.specs.Device.{Device}
use Rattle.board.specs.Flash.{Flash, blank}
use Rattle.board.specs.Meaning.{BoardMeaning}
use Rattle.board.specs.Memory as memory
use Rattle.trials.specs.Half.{half_of}
use Rattle.trials.specs.declared.half_board.HalfBoard.{HalfBoard}

-- the device in memory that it passes its calls on to
abbrev pub board_of : HalfBoard → MemBoard
board_of half = half.board

abbrev pub device_of : HalfBoard → Device
device_of half = memory.device_of (board_of half)

abbrev pub flash_of : HalfBoard → Flash
flash_of half = memory.flash_of (board_of half)

abbrev pub image_at : HalfBoard → ℕ → (ℕ → List ℕ) → Type 0
image_at half = memory.image_at (board_of half)

-- how many steps there were: each send that had memory is one
abbrev pub moment_of : HalfBoard → ℕ
moment_of half = memory.moment_of (board_of half)

-- the octets that were sent by a moment
abbrev pub sent_at : HalfBoard → ℕ → List ℕ
sent_at half = memory.sent_at (board_of half)

-- how often flash and link have failed, and how often each was called
abbrev pub counts_of : HalfBoard → Counts
counts_of half = record (memory.counts_of (board_of half)) { link_faults = half.link_faults }

-- all of it as one value
abbrev pub half_means : BoardMeaning HalfBoard
half_means = record {
  device = device_of;
  flash = flash_of;
  moment = moment_of;
  images = image_at;
  sent = sent_at;
  counts = counts_of;
}

-- how many sends there were, those that failed among them
abbrev pub sends_made : HalfBoard → ℕ
sends_made half = half.made

-- the number of the send that is to fail
abbrev pub planned_send : HalfBoard → Option ℕ
planned_send half = half.planned

-- whether a call has found no memory
abbrev pub is_starved : HalfBoard → Bool
is_starved half = memory.is_starved (board_of half)

-- A board that was just made.
pub record IsNewBoard (blocks : ℕ) (half : HalfBoard) : Type 0 where
  pub over : memory.IsNewBoard blocks (λ p. blank) true (board_of half)
  pub link_faults : (counts_of half).link_faults ≡ 0
  pub made : sends_made half ≡ 0
  pub planned : planned_send half ≡ None

-- Nothing changes but what is to fail.
pub record SameButPlan (old new : HalfBoard) : Type 0 where
  pub over : board_of new ≡ board_of old
  pub counts : counts_of new ≡ counts_of old
  pub made : sends_made new ≡ sends_made old

-- the new board's last send was planned to fail
abbrev pub IsPlannedSend : HalfBoard → HalfBoard → Type 0
IsPlannedSend old new = planned_send old ≡ Some (sends_made new)

-- A send is counted, and the plan stays.
pub record CountsSend (old new : HalfBoard) : Type 0 where
  pub made : sends_made new ≡ min (sends_made old + 1) 18446744073709551615
  pub planned : planned_send new ≡ planned_send old

-- A send is one step, which sends these octets.
pub record SendsThese (bytes : List ℕ) (old new : HalfBoard) : Type 0 where
  pub moment : moment_of new ≡ moment_of old + 1
  pub sent : sent_at new (moment_of new) ≡ sent_at old (moment_of old) ++ bytes
  pub starved : is_starved new ≡ is_starved old

-- A send for which there is no memory is no step, and the board says so from then on.
pub record Starves (old new : HalfBoard) : Type 0 where
  pub moment : moment_of new ≡ moment_of old
  pub sent : sent_at new (moment_of new) ≡ sent_at old (moment_of old)
  pub starved : is_starved new ≡ true

-- A send fails because it was planned to, and then sends half, or because there is no memory.
pub record SendFails (bytes : List ℕ) (old new : HalfBoard) : Type 0 where
  pub faults : (counts_of new).link_faults
      ≡ min ((counts_of old).link_faults + 1) 18446744073709551615
  pub reason : (IsPlannedSend old new × SendsThese (half_of bytes) old new) ⊎ Starves old new

-- A send that succeeds was not planned to fail, and sends all.
pub record SendSucceeds (bytes : List ℕ) (old new : HalfBoard) : Type 0 where
  pub unplanned : ¬ (IsPlannedSend old new)
  pub faults : (counts_of new).link_faults ≡ (counts_of old).link_faults
  pub sends : SendsThese bytes old new
