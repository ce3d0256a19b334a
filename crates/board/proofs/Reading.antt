-- How runs of calls that leave the flash as it was go on.
use Rattle.std.proofs.Common.{◌≡◌, ℕ, ◌+◌, ◌≤◌, List, refl, ◌∙◌, subst, arith}
use Rattle.board.specs.Device.{Device}
use Rattle.board.specs.Flash.{Flash, IsImage}
use Rattle.board.specs.Meaning.{BoardMeaning, TellsFlash}
use Rattle.board.specs.Reads.{FlashStays, ReadsOnly}
use Rattle.board.proofs.Runs as runs
use Rattle.board.proofs.Stops.{goes_on, started}
use Rattle.board.proofs.Works.{tells_too, works_most, works_none, works_on}

module _ {B : Type 0} (means : BoardMeaning B) where
  -- before the first call
  pub stays_none : (old : B)
      → ((image : ℕ → List ℕ) → means.images old (means.moment old) image
      → IsImage (means.device old).blocks (means.flash old) image) → FlashStays means old old
  stays_none old now = record {
    flash = refl;
    seen = λ here. here;
    leaves = started means old (IsImage (means.device old).blocks (means.flash old)) now;
  }

  -- two runs that leave it as it was
  pub stays_on : (old mid new : B) → means.device mid ≡ means.device old
      → FlashStays means old mid → FlashStays means mid new → FlashStays means old new
  stays_on old mid new same first second = record {
    flash = second.flash ∙ first.flash;
    seen = λ here. second.seen (first.seen here);
    leaves = goes_on means old mid new _ _ first.leaves second.leaves
        (λ image is. subst (λ (f : Flash). IsImage (means.device old).blocks f image) first.flash
        (subst (λ (d : Device). IsImage d.blocks (means.flash mid) image) same is));
  }

  -- before the first read
  pub reads_none : (old : B)
      → ((image : ℕ → List ℕ) → TellsFlash means old → means.images old (means.moment old) image
      → IsImage (means.device old).blocks (means.flash old) image)
      → ReadsOnly means 0 old old
  reads_none old now = record {
    stays = λ told. stays_none old (λ image left. now image told left);
    unsent = λ told. runs.sends_nothing_yet means old;
    same = refl;
    work = works_none (means.counts old);
  }

  -- two runs of reads
  pub reads_on : {m n : ℕ} (old mid new : B) → ReadsOnly means m old mid
      → ReadsOnly means n mid new → ReadsOnly means (m + n) old new
  reads_on old mid new first second = record {
    stays = λ told. stays_on old mid new first.same (first.stays told)
        (second.stays (tells_too first.same told));
    unsent = λ told. runs.sends_nothing_on means old mid new (first.unsent told)
        (second.unsent (runs.links_too first.same told));
    same = second.same ∙ first.same;
    work = works_on first.work second.work;
  }

  -- at most as many as is allowed
  pub reads_most : {m n : ℕ} (old new : B) → ReadsOnly means m old new → m ≤ n
      → ReadsOnly means n old new
  reads_most old new run le = record {
    stays = run.stays;
    unsent = run.unsent;
    same = run.same;
    work = works_most run.work le (omega arith) (omega arith) (omega arith);
  }
