-- How runs of calls go on that read, and that program or erase some pages.
use Rattle.std.proofs.Common.{ℕ, ◌+◌, ◌≤◌, Bool, List, refl, ◌∙◌, subst}
use Rattle.board.specs.Device.{Device}
use Rattle.board.specs.Flash.{IsImage, loosened}
use Rattle.board.specs.Meaning.{BoardMeaning, TellsFlash}
use Rattle.board.specs.Touches.{ReadsAndTouches, Touches}
use Rattle.board.proofs.Pages.{image_of_loosened}
use Rattle.board.proofs.Runs as runs
use Rattle.board.proofs.Stops.{goes_on, started}
use Rattle.board.proofs.Touching.{Within, elsewhere_on, image_since, kept_elsewhere, same_elsewhere}
use Rattle.board.proofs.Works.{tells_too, works_most, works_none, works_on}
use Rattle.chain_log.specs.Copies.{Copies}

module _ {B : Type 0} (means : BoardMeaning B) where
  -- before the first call
  pub rewrites_none : (these : ℕ → Bool) (old : B)
      → ((image : ℕ → List ℕ) → TellsFlash means old → means.images old (means.moment old) image
      → IsImage (means.device old).blocks (means.flash old) image)
      → ReadsAndTouches means these 0 0 0 0 old old
  rewrites_none these old now = record {
    others = λ told.
        kept_elsewhere (same_elsewhere these (means.flash old) (means.flash old) refl);
    leaves = λ told. started means old
        (IsImage (means.device old).blocks (loosened these (means.flash old)))
        (λ image left. image_of_loosened (means.device old).blocks these (means.flash old) image
        (now image told left));
    unsent = λ told. runs.sends_nothing_yet means old;
    same = refl;
    work = works_none (means.counts old);
  }

  -- two runs
  pub rewrites_on : {r p e b s q f c : ℕ} (these those : ℕ → Bool) (old mid new : B)
      → Within those these → ReadsAndTouches means these r p e b old mid
      → ReadsAndTouches means those s q f c mid new
      → ReadsAndTouches means these (r + s) (p + q) (e + f) (b + c) old new
  rewrites_on these those old mid new within first second = record {
    others = λ told. elsewhere_on these those (means.flash old) (means.flash mid) (means.flash new)
        within (first.others told) (second.others (tells_too first.same told));
    leaves = λ told. goes_on means old mid new _ _ (first.leaves told)
        (second.leaves (tells_too first.same told))
        (λ image is. image_since (means.device old).blocks these those (means.flash old)
        (means.flash mid) image within (first.others told).content (first.others told).firm
        (subst (λ (d : Device). IsImage d.blocks (loosened those (means.flash mid)) image)
        first.same is));
    unsent = λ told. runs.sends_nothing_on means old mid new (first.unsent told)
        (second.unsent (runs.links_too first.same told));
    same = second.same ∙ first.same;
    work = works_on first.work second.work;
  }

  -- at most as much as is allowed
  pub rewrites_most : {r p e b s q f c : ℕ} {these : ℕ → Bool} {old new : B}
      → ReadsAndTouches means these r p e b old new → r ≤ s → p ≤ q → e ≤ f → b ≤ c
      → ReadsAndTouches means these s q f c old new
  rewrites_most run reads programs erases barriers = record {
    others = run.others;
    leaves = run.leaves;
    unsent = run.unsent;
    same = run.same;
    work = works_most run.work reads programs erases barriers;
  }

  -- a run that reads nothing
  pub of_touches : {p e b : ℕ} {these : ℕ → Bool} {old new : B}
      → Touches means these p e b old new → ReadsAndTouches means these 0 p e b old new
  of_touches run = record {
    others = run.others;
    leaves = run.leaves;
    unsent = run.unsent;
    same = run.same;
    work = run.work;
  }

  -- a record that was copied
  pub of_copies : {r p : ℕ} {these : ℕ → Bool} {old new : B}
      → Copies means these r p old new → ReadsAndTouches means these r p 0 0 old new
  of_copies run = record {
    others = λ told. kept_elsewhere (run.others told);
    leaves = run.leaves;
    unsent = run.unsent;
    same = run.same;
    work = run.work;
  }
