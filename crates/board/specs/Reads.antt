-- Runs of calls that leave the flash as it was.
use Rattle.std.specs.Prelude.{◌≡◌, ℕ}
use Rattle.board.specs.Counts.{Works}
use Rattle.board.specs.Flash.{IsImage}
use Rattle.board.specs.Meaning.{BoardMeaning, TellsFlash, TellsLink}
use Rattle.board.specs.Moments.{LeavesOnly, SendsNothing}

-- The flash is as it was, and a stop leaves what it left before.
pub record FlashStays {B : Type 0} (means : BoardMeaning B) (old new : B) : Type 0 where
  pub flash : means.flash new ≡ means.flash old
  -- what is read is an image still, where it was one
  pub seen : means.images old (means.moment old) (means.flash old).content
      → means.images new (means.moment new) (means.flash new).content
  pub leaves : LeavesOnly means old new (IsImage (means.device old).blocks (means.flash old))

-- At most so many pages were read, and nothing was sent.
pub record ReadsOnly {B : Type 0} (means : BoardMeaning B) (most : ℕ) (old new : B) : Type 0 where
  pub stays : TellsFlash means old → FlashStays means old new
  pub unsent : TellsLink means old → SendsNothing means old new
  pub same : means.device new ≡ means.device old
  pub work : Works most 0 0 0 (means.counts old) (means.counts new)
