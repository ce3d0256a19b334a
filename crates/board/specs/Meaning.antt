-- What a board and a source mean, each as one value: clauses, records and lemmas take it whole.
--
-- A trait has one ghost member of such a type, and an impl gives it as a record. `BoardMeaning` holds types in
-- `images`, so it lives one level up.
use Rattle.std.specs.Prelude.{ℕ, Bool, List, IsTrue}
use Rattle.board.specs.Counts.{Counts}
use Rattle.board.specs.Device.{Device}
use Rattle.board.specs.Flash.{Flash}

pub record BoardMeaning (B : Type 0) : Type 1 where
  -- What no call changes: how many blocks there are, and whether flash and link are told.
  pub device : B → Device
  -- The flash now. It says nothing where the flash is not told.
  pub flash : B → Flash
  -- The moment, as a number that never falls.
  pub moment : B → ℕ
  -- What a stop at a moment may leave. It says nothing where the flash is not told.
  pub images : B → ℕ → (ℕ → List ℕ) → Type 0
  -- The octets sent by a moment. It says nothing where the link is not told.
  pub sent : B → ℕ → List ℕ
  -- How often the outside has failed, and the work done so far. These counts never fall.
  pub counts : B → Counts

pub record SourceMeaning (S : Type 0) : Type 1 where
  -- Whether it tells what is left. No call changes it.
  pub tells : S → Bool
  -- The octets that are still to come. It says nothing where they are not told.
  pub left : S → List ℕ
  -- How often it has failed, and how often it was asked. These counts never fall.
  pub faults : S → ℕ
  pub takes : S → ℕ

-- whether it tells its flash, and what it has sent
abbrev pub TellsFlash : {B : Type 0} → BoardMeaning B → B → Type 0
TellsFlash means board = IsTrue (means.device board).tells_flash

abbrev pub TellsLink : {B : Type 0} → BoardMeaning B → B → Type 0
TellsLink means board = IsTrue (means.device board).tells_link
