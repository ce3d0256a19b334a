-- What a copy of a record leaves.
use Rattle.std.specs.Prelude.{◌≡◌, ◌⊎◌, ⊤, ℕ, ◌+◌, ◌*◌, Bool, Some, Result, Ok, Err}
use Rattle.board.specs.Counts.{Works}
use Rattle.board.specs.Flash.{Flash, IsImage, loosened}
use Rattle.board.specs.Meaning.{BoardMeaning, TellsFlash, TellsLink}
use Rattle.board.specs.Moments.{LeavesOnly, SendsNothing}
use Rattle.board.specs.Touches.{SameElsewhere}
use Rattle.record_view.specs.Records.{Meaning, record_at}
use Rattle.chain_log.specs.declared.place.LoadFault.{LoadFault}
use Rattle.chain_log.specs.declared.place.LoadFault.TheVariants as faults
use Rattle.chain_log.specs.declared.place.Place.{Place}
use Rattle.chain_log.specs.Loaded.{IsFound, octets_at}
use Rattle.chain_log.specs.Pages.{block_octets, with_record}
use Rattle.chain_log.specs.Tails.{Filling}

-- The record of a place stands behind those of a tail too, under the number `to`.
pub record IsCopied (place : Place) (number to : ℕ) (tail : Filling) (old new : Flash)
    : Type 0 where
  pub meaning : Meaning
  pub found : IsFound (octets_at old.content place) number place.length meaning
  pub flash : new
      ≡ with_record (256 * tail.block + tail.used) to meaning.stamp meaning.packet old
  pub spelled : record_at (block_octets new.content tail.block) to tail.used
      ≡ Some (record { number = to; stamp = meaning.stamp; packet = meaning.packet })

-- How many pages of a tail are taken after a copy: after a flash fault as many as before, or all.
abbrev pub IsUsedAfter : {A : Type 0} → ℕ → ℕ → Result A LoadFault → ℕ → Type 0
IsUsedAfter pages used (Ok page) now = now ≡ used + pages
IsUsedAfter pages used (Err faults.Flash) now = (now ≡ used) ⊎ (now ≡ 256)
IsUsedAfter pages used (Err (faults.Mismatch block page kept found)) now = now ≡ used

-- what a copy makes of a tail
pub record IsAfterCopy {A : Type 0} (pages : ℕ) (old : Filling) (answer : Result A LoadFault)
    (new : Filling) : Type 0 where
  pub block : new.block ≡ old.block
  pub used : IsUsedAfter pages old.used answer new.used

-- Something that holds after a mismatch.
abbrev pub OnMismatch : {A : Type 0} → Result A LoadFault → Type 0 → Type 0
OnMismatch (Ok answer) P = ⊤
OnMismatch (Err faults.Flash) P = ⊤
OnMismatch (Err (faults.Mismatch block page kept found)) P = P

-- Also where a call failed: no page but these changed, a stop at any moment leaves each other page
-- that was firm as it was, and nothing was sent. There were at most so many reads and programs.
pub record Copies {B : Type 0} (means : BoardMeaning B) (these : ℕ → Bool) (reads programs : ℕ)
    (old new : B) : Type 0 where
  pub others : TellsFlash means old → SameElsewhere these (means.flash old) (means.flash new)
  pub leaves : TellsFlash means old
      → LeavesOnly means old new
      (IsImage (means.device old).blocks (loosened these (means.flash old)))
  pub unsent : TellsLink means old → SendsNothing means old new
  pub same : means.device new ≡ means.device old
  pub work : Works reads programs 0 0 (means.counts old) (means.counts new)
