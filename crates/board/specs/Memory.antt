-- What a board in memory means, and what its calls change.
use Rattle.std.specs.Prelude.{◌≡◌, ◌⊎◌, ◌+◌, ◌*◌, ◌<◌, ◌≤◌, ℕ, Bool, true, false, List, [], Contains, IsTrue, drop, length, take}
use Rattle.board.specs.declared.calls.CallKind.{CallKind}
use Rattle.board.specs.declared.memory.MemBoard.{MemBoard}
use Rattle.board.specs.Calls.{made_in, planned_in}
use Rattle.board.specs.Counts.{Counts}
use Rattle.board.specs.Device.{Device}
use Rattle.board.specs.Flash.{Flash, IsImage}
use Rattle.board.specs.History.{first_flash, flash_after, sent_by, torn}
use Rattle.board.specs.Kinds.{PerKind, at_kind, changed, each, one_more}
use Rattle.board.specs.Meaning.{BoardMeaning}
use Rattle.board.specs.Stopped.{firm_after}

-- a device of so many blocks that tells all
abbrev pub telling : ℕ → Device
telling blocks = record { blocks = blocks; tells_flash = true; tells_link = true; over = [] }

abbrev pub device_of : MemBoard → Device
device_of board = telling board.history.blocks

-- how many steps there were
abbrev pub moment_of : MemBoard → ℕ
moment_of board = length board.history.steps.items

abbrev pub flash_of : MemBoard → Flash
flash_of board = flash_after board.history.steps.items (first_flash board.history.first)

-- the flash as it was at a moment
abbrev pub flash_at : MemBoard → ℕ → Flash
flash_at board t = flash_after (take t board.history.steps.items) (first_flash board.history.first)

-- what each page held when it was last firm, at a moment
abbrev pub firm_at : MemBoard → ℕ → ℕ → List ℕ
firm_at board t = firm_after (take t board.history.steps.items) (first_flash board.history.first)

-- a stop at a moment may leave each image of the flash as it was
abbrev pub image_at : MemBoard → ℕ → (ℕ → List ℕ) → Type 0
image_at board t image = IsImage board.history.blocks (flash_at board t) image

-- the octets that were sent by a moment
abbrev pub sent_at : MemBoard → ℕ → List ℕ
sent_at board t = take (sent_by (take t board.history.steps.items)) board.history.sent.items

abbrev pub counts_of : MemBoard → Counts
counts_of board = record {
  flash_faults = board.flash_faults;
  link_faults = board.link_faults;
  reads = board.calls.reads.made;
  programs = board.calls.programs.made;
  erases = board.calls.erases.made;
  barriers = board.calls.barriers.made;
  sends = board.calls.sends.made;
}

-- all of it as one value
abbrev pub memory_means : BoardMeaning MemBoard
memory_means = record {
  device = device_of;
  flash = flash_of;
  moment = moment_of;
  images = image_at;
  sent = sent_at;
  counts = counts_of;
}

-- how many calls of each kind there were, those that failed among them
abbrev pub calls_made : MemBoard → PerKind ℕ
calls_made board = made_in board.calls

-- the numbers of the calls of each kind that are to fail
abbrev pub planned_calls : MemBoard → PerKind (List ℕ)
planned_calls board = planned_in board.calls

-- whether a call has found no memory
abbrev pub is_starved : MemBoard → Bool
is_starved board = board.starved

-- what the pages of an image hold
abbrev pub pages_in : List ℕ → ℕ → List ℕ
pages_in image p = take 256 (drop (256 * p) image)

-- A board that was just made. Its pages hold this, and are firm, and erased or not.
pub record IsNewBoard (blocks : ℕ) (content : ℕ → List ℕ) (erased : Bool) (board : MemBoard) : Type 0 where
  pub device : device_of board ≡ telling blocks
  pub content_is : (p : ℕ) → p < 256 * blocks → (flash_of board).content p ≡ content p
  pub erased_is : (p : ℕ) → (flash_of board).erased p ≡ erased
  pub loose : (p : ℕ) → (flash_of board).loose p ≡ false
  pub moment : moment_of board ≡ 0
  pub sent : sent_at board (moment_of board) ≡ []
  pub counts : counts_of board ≡ record { flash_faults = 0; link_faults = 0; reads = 0; programs = 0; erases = 0; barriers = 0; sends = 0 }
  pub made : calls_made board ≡ each 0
  pub planned : planned_calls board ≡ each []
  pub starved : is_starved board ≡ false

-- Nothing changes but what is to fail.
pub record SameButPlans (old new : MemBoard) : Type 0 where
  pub device : device_of new ≡ device_of old
  pub flash : flash_of new ≡ flash_of old
  pub moment : moment_of new ≡ moment_of old
  pub past : (t : ℕ) → flash_at new t ≡ flash_at old t
  pub firm_past : (t : ℕ) → firm_at new t ≡ firm_at old t
  pub sent : (t : ℕ) → sent_at new t ≡ sent_at old t
  pub counts : counts_of new ≡ counts_of old
  pub made : calls_made new ≡ calls_made old
  pub starved : is_starved new ≡ is_starved old

-- the new board's last call of this kind was planned to fail
abbrev pub IsPlanned : CallKind → MemBoard → MemBoard → Type 0
IsPlanned kind old new = Contains (at_kind kind (planned_calls old)) (at_kind kind (calls_made new))

-- A call of this kind is counted, and no other. No plan changes, nor what the flash was before and what its pages
-- held when they were last firm, and a board that has found no memory says so from then on.
pub record MakesCall (kind : CallKind) (old new : MemBoard) : Type 0 where
  pub made : calls_made new ≡ changed kind one_more (calls_made old)
  pub planned : planned_calls new ≡ planned_calls old
  pub past : (t : ℕ) → t ≤ moment_of old → flash_at new t ≡ flash_at old t
  pub firm_past : (t : ℕ) → t ≤ moment_of old → firm_at new t ≡ firm_at old t
  pub starved : IsTrue (is_starved old) → IsTrue (is_starved new)

-- A call that was not planned to fail, and did so many steps.
pub record Succeeds (kind : CallKind) (steps : ℕ) (old new : MemBoard) : Type 0 where
  pub unplanned : ¬ IsPlanned kind old new
  pub moment : moment_of new ≡ moment_of old + steps
  pub flash_faults : (counts_of new).flash_faults ≡ (counts_of old).flash_faults
  pub link_faults : (counts_of new).link_faults ≡ (counts_of old).link_faults
  pub starved : is_starved new ≡ is_starved old

-- A call that was planned to fail, did so many steps and sent nothing.
pub record FailsPlanned (kind : CallKind) (steps : ℕ) (change : Flash → Flash) (old new : MemBoard) : Type 0 where
  pub planned : IsPlanned kind old new
  pub moment : moment_of new ≡ moment_of old + steps
  pub flash : flash_of new ≡ change (flash_of old)
  pub sent : sent_at new (moment_of new) ≡ sent_at old (moment_of old)
  pub starved : is_starved new ≡ is_starved old

-- A call that found no memory for its step, and did none.
pub record FindsNoMemory (old new : MemBoard) : Type 0 where
  pub moment : moment_of new ≡ moment_of old
  pub flash : flash_of new ≡ flash_of old
  pub sent : sent_at new (moment_of new) ≡ sent_at old (moment_of old)
  pub starved : IsTrue (is_starved new)

-- a failure that leaves flash and link as they were: it was planned, or there was no memory for the step
abbrev pub FailsQuietly : CallKind → MemBoard → MemBoard → Type 0
FailsQuietly kind old new = FailsPlanned kind 0 (λ flash. flash) old new ⊎ ((¬ IsPlanned kind old new) × FindsNoMemory old new)

-- A failure that tears these pages, as it was planned. Where there is no memory for the step of a call, planned
-- or not, it leaves all as it was.
abbrev pub FailsTorn : CallKind → (ℕ → Bool) → MemBoard → MemBoard → Type 0
FailsTorn kind these old new = FailsPlanned kind 1 (torn these) old new ⊎ FindsNoMemory old new
