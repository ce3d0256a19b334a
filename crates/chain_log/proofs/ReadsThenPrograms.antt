-- Pages that are read, and then others that are programmed.
use Rattle.std.proofs.Common.{ℕ, Bool, ◌∙◌, subst, arith}
use Rattle.board.specs.Device.{Device}
use Rattle.board.specs.Flash.{Flash, IsImage, loosened}
use Rattle.board.specs.Meaning.{BoardMeaning, TellsFlash}
use Rattle.board.specs.Reads.{ReadsOnly}
use Rattle.board.specs.Touches.{SameElsewhere, Touches}
use Rattle.board.proofs.Pages.{image_of_loosened}
use Rattle.board.proofs.Runs as runs
use Rattle.board.proofs.Stops.{goes_on, weaker}
use Rattle.board.proofs.Touching.{same_elsewhere}
use Rattle.board.proofs.Works.{tells_too, works_most, works_on}
use Rattle.chain_log.specs.Copies.{Copies}

module _ {B : Type 0} (means : BoardMeaning B) (these : ℕ → Bool) where
  -- what was only read
  pub copies_nothing : {r p : ℕ} (old new : B) → ReadsOnly means r old new
      → Copies means these r p old new
  copies_nothing old new reading = record {
    others = λ told. same_elsewhere these (means.flash old) (means.flash new)
        (reading.stays told).flash;
    leaves = λ told. weaker means old new _ _ (reading.stays told).leaves
        (image_of_loosened (means.device old).blocks these (means.flash old));
    unsent = reading.unsent;
    same = reading.same;
    work = works_most reading.work (omega arith) (omega arith) (omega arith) (omega arith);
  }

  -- read, and then programmed
  pub copies_all : {r p : ℕ} (old mid new : B) → ReadsOnly means r old mid
      → Touches means these p 0 0 mid new
      → (TellsFlash means mid → SameElsewhere these (means.flash mid) (means.flash new))
      → Copies means these r p old new
  copies_all {r} {p} old mid new reading touching others = record {
    others = λ told. subst (λ (f : Flash). SameElsewhere these f (means.flash new))
        (reading.stays told).flash (others (tells_too reading.same told));
    leaves = λ told. goes_on means old mid new _ _
        (weaker means old mid _ _ (reading.stays told).leaves
        (image_of_loosened (means.device old).blocks these (means.flash old)))
        (touching.leaves (tells_too reading.same told))
        (λ image is.
        subst (λ (f : Flash). IsImage (means.device old).blocks (loosened these f) image)
        (reading.stays told).flash
        (subst (λ (d : Device). IsImage d.blocks (loosened these (means.flash mid)) image)
        reading.same is));
    unsent = λ told. runs.sends_nothing_on means old mid new (reading.unsent told)
        (touching.unsent (runs.links_too reading.same told));
    same = touching.same ∙ reading.same;
    work = works_most (works_on reading.work touching.work)
        (omega arith) (omega arith) (omega arith) (omega arith);
  }
