-- Runs of calls that program or erase some pages and no other.
use Rattle.std.specs.Prelude.{◌≡◌, ℕ, Bool, false}
use Rattle.board.specs.Counts.{Works}
use Rattle.board.specs.Flash.{Flash, IsImage, loosened}
use Rattle.board.specs.Meaning.{BoardMeaning, TellsFlash, TellsLink}
use Rattle.board.specs.Moments.{LeavesOnly, SendsNothing}

-- Each other page holds what it held and is as erased and as firm as it was: where it was clean, it still is.
-- A barrier may have made it firm.
pub record KeptElsewhere (these : ℕ → Bool) (old new : Flash) : Type 0 where
  pub content : (p : ℕ) → these p ≡ false → new.content p ≡ old.content p
  pub erased : (p : ℕ) → these p ≡ false → new.erased p ≡ old.erased p
  pub firm : (p : ℕ) → these p ≡ false → old.loose p ≡ false → new.loose p ≡ false

-- Each other page is just as it was. No barrier has made it firm.
pub record SameElsewhere (these : ℕ → Bool) (old new : Flash) : Type 0 where
  pub content : (p : ℕ) → these p ≡ false → new.content p ≡ old.content p
  pub erased : (p : ℕ) → these p ≡ false → new.erased p ≡ old.erased p
  pub loose : (p : ℕ) → these p ≡ false → new.loose p ≡ old.loose p

-- Also where a call failed: no page but these changed, a stop at any moment leaves each other page that was
-- firm as it was, and nothing was sent. No page was read, and there were at most so many programs, erases and
-- barriers.
pub record Touches {B : Type 0} (means : BoardMeaning B) (these : ℕ → Bool) (programs erases barriers : ℕ)
    (old new : B) : Type 0 where
  pub others : TellsFlash means old → KeptElsewhere these (means.flash old) (means.flash new)
  pub leaves : TellsFlash means old
      → LeavesOnly means old new (IsImage (means.device old).blocks (loosened these (means.flash old)))
  pub unsent : TellsLink means old → SendsNothing means old new
  pub same : means.device new ≡ means.device old
  pub work : Works 0 programs erases barriers (means.counts old) (means.counts new)

-- The same of calls that read too, at most so many pages.
pub record ReadsAndTouches {B : Type 0} (means : BoardMeaning B) (these : ℕ → Bool)
    (reads programs erases barriers : ℕ) (old new : B) : Type 0 where
  pub others : TellsFlash means old → KeptElsewhere these (means.flash old) (means.flash new)
  pub leaves : TellsFlash means old
      → LeavesOnly means old new (IsImage (means.device old).blocks (loosened these (means.flash old)))
  pub unsent : TellsLink means old → SendsNothing means old new
  pub same : means.device new ≡ means.device old
  pub work : Works reads programs erases barriers (means.counts old) (means.counts new)

-- no page
abbrev pub no_page : ℕ → Bool
no_page p = false
