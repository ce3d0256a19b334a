-- How runs of calls that program or erase some pages go on.
use Rattle.std.proofs.Common.{◌≡◌, ℕ, ◌+◌, ◌≤◌, Bool, true, false, List, Result, Ok, Err, OnOk, OnErr, refl, ◌∙◌, ap, subst, arith}
use Rattle.board.specs.Device.{Device}
use Rattle.board.specs.Flash.{Fails, Flash, IsImage, Torn, Unchanged, blank, firm, loosened, wiped, written}
use Rattle.board.specs.Meaning.{BoardMeaning, TellsFlash}
use Rattle.board.specs.Moments.{LeavesOnly}
use Rattle.board.specs.Touches.{KeptElsewhere, SameElsewhere, Touches}
use Rattle.board.proofs.Pages.{elsewhere, image_of_loosened, image_of_more, outside}
use Rattle.board.proofs.Runs as runs
use Rattle.board.proofs.Stops.{goes_on, started, weaker}
use Rattle.board.proofs.Works.{tells_too, works_most, works_none, works_on}

-- these pages are among those
abbrev pub Within : (ℕ → Bool) → (ℕ → Bool) → Type 0
Within these those = (p : ℕ) → those p ≡ false → these p ≡ false

-- what steps of some pages leave of the others
pub written_elsewhere : (these : ℕ → Bool) (pages : ℕ → List ℕ) (old new : Flash)
    → new ≡ written these pages old → SameElsewhere these old new
written_elsewhere these pages old new is = record {
  content = λ p out. ap (λ (f : Flash). f.content p) is ∙ elsewhere (these p) (pages p) (old.content p) out;
  erased = λ p out. ap (λ (f : Flash). f.erased p) is ∙ elsewhere (these p) false (old.erased p) out;
  loose = λ p out. ap (λ (f : Flash). f.loose p) is ∙ elsewhere (these p) true (old.loose p) out;
}

pub wiped_elsewhere : (these : ℕ → Bool) (old new : Flash) → new ≡ wiped these old → SameElsewhere these old new
wiped_elsewhere these old new is = record {
  content = λ p out. ap (λ (f : Flash). f.content p) is ∙ elsewhere (these p) blank (old.content p) out;
  erased = λ p out. ap (λ (f : Flash). f.erased p) is ∙ elsewhere (these p) true (old.erased p) out;
  loose = λ p out. ap (λ (f : Flash). f.loose p) is ∙ elsewhere (these p) true (old.loose p) out;
}

pub same_elsewhere : (these : ℕ → Bool) (old new : Flash) → new ≡ old → SameElsewhere these old new
same_elsewhere these old new is = record {
  content = λ p out. ap (λ (f : Flash). f.content p) is;
  erased = λ p out. ap (λ (f : Flash). f.erased p) is;
  loose = λ p out. ap (λ (f : Flash). f.loose p) is;
}

pub failed_elsewhere : (these : ℕ → Bool) (old new : Flash) → Fails these old new → SameElsewhere these old new
failed_elsewhere these old new (Unchanged same) = same_elsewhere these old new same
failed_elsewhere these old new (Torn pages is) = written_elsewhere these pages old new is

-- a program's effect, or its failure's
pub program_elsewhere : {A E : Type 0} (result : Result A E) (Told : Type 0) (these : ℕ → Bool) (pages : ℕ → List ℕ) (old new : Flash)
    → OnOk result (Told → new ≡ written these pages old) → OnErr result (Told → Fails these old new)
    → Told → SameElsewhere these old new
program_elsewhere (Ok x) Told these pages old new ok err told = written_elsewhere these pages old new (ok told)
program_elsewhere (Err e) Told these pages old new ok err told = failed_elsewhere these old new (err told)

pub kept_elsewhere : {these : ℕ → Bool} {old new : Flash} → SameElsewhere these old new → KeptElsewhere these old new
kept_elsewhere same = record {
  content = same.content;
  erased = same.erased;
  firm = λ p out was. same.loose p out ∙ was;
}

-- a barrier makes other pages firm, and no more
pub firm_elsewhere : (these : ℕ → Bool) (old new : Flash) → new ≡ firm old → KeptElsewhere these old new
firm_elsewhere these old new is = record {
  content = λ p out. ap (λ (f : Flash). f.content p) is;
  erased = λ p out. ap (λ (f : Flash). f.erased p) is;
  firm = λ p out was. ap (λ (f : Flash). f.loose p) is;
}

-- one after the other
pub elsewhere_on : (these those : ℕ → Bool) (old mid new : Flash) → Within those these
    → KeptElsewhere these old mid → KeptElsewhere those mid new → KeptElsewhere these old new
elsewhere_on these those old mid new within first second = record {
  content = λ p out. second.content p (within p out) ∙ first.content p out;
  erased = λ p out. second.erased p (within p out) ∙ first.erased p out;
  firm = λ p out was. second.firm p (within p out) (first.firm p out was);
}

pub same_on : (these those : ℕ → Bool) (old mid new : Flash) → Within those these
    → SameElsewhere these old mid → SameElsewhere those mid new → SameElsewhere these old new
same_on these those old mid new within first second = record {
  content = λ p out. second.content p (within p out) ∙ first.content p out;
  erased = λ p out. second.erased p (within p out) ∙ first.erased p out;
  loose = λ p out. second.loose p (within p out) ∙ first.loose p out;
}

-- what a stop leaves of later pages, seen from before
pub image_since : (blocks : ℕ) (these those : ℕ → Bool) (old mid : Flash) (image : ℕ → List ℕ) → Within those these
    → ((p : ℕ) → these p ≡ false → mid.content p ≡ old.content p)
    → ((p : ℕ) → these p ≡ false → old.loose p ≡ false → mid.loose p ≡ false)
    → IsImage blocks (loosened those mid) image → IsImage blocks (loosened these old) image
image_since blocks these those old mid image within same firm is = record {
  pages = is.pages;
  firm_pages = λ p inside loose.
      let out = outside (these p) (old.loose p) loose in
      is.firm_pages p inside (elsewhere (those p) true (mid.loose p) (within p out.0) ∙ firm p out.0 out.1) ∙ same p out.0;
}

module _ {B : Type 0} (means : BoardMeaning B) where
  -- before the first call
  pub touches_none : (these : ℕ → Bool) (old : B)
      → ((image : ℕ → List ℕ) → TellsFlash means old → means.images old (means.moment old) image
      → IsImage (means.device old).blocks (means.flash old) image)
      → Touches means these 0 0 0 old old
  touches_none these old now = record {
    others = λ told. kept_elsewhere (same_elsewhere these (means.flash old) (means.flash old) refl);
    leaves = λ told. started means old (IsImage (means.device old).blocks (loosened these (means.flash old)))
        (λ image left. image_of_loosened (means.device old).blocks these (means.flash old) image (now image told left));
    unsent = λ told. runs.sends_nothing_yet means old;
    same = refl;
    work = works_none (means.counts old);
  }

  -- two runs
  pub touches_on : {p e b q f c : ℕ} (these those : ℕ → Bool) (old mid new : B) → Within those these
      → Touches means these p e b old mid → Touches means those q f c mid new
      → Touches means these (p + q) (e + f) (b + c) old new
  touches_on these those old mid new within first second = record {
    others = λ told. elsewhere_on these those (means.flash old) (means.flash mid) (means.flash new) within
        (first.others told) (second.others (tells_too first.same told));
    leaves = λ told. goes_on means old mid new _ _ (first.leaves told) (second.leaves (tells_too first.same told))
        (λ image is. image_since (means.device old).blocks these those (means.flash old) (means.flash mid) image within
        (first.others told).content (first.others told).firm (subst (λ (d : Device). IsImage d.blocks (loosened those (means.flash mid)) image) first.same is));
    unsent = λ told. runs.sends_nothing_on means old mid new (first.unsent told)
        (second.unsent (runs.links_too first.same told));
    same = second.same ∙ first.same;
    work = works_on first.work second.work;
  }

  -- at most as much as is allowed
  pub touches_most : {p e b q f c : ℕ} {these : ℕ → Bool} {old new : B}
      → Touches means these p e b old new → p ≤ q → e ≤ f → b ≤ c → Touches means these q f c old new
  touches_most run programs erases barriers = record {
    others = run.others;
    leaves = run.leaves;
    unsent = run.unsent;
    same = run.same;
    work = works_most run.work (omega arith) programs erases barriers;
  }

  -- among more pages
  pub touches_more : {p e b : ℕ} (these those : ℕ → Bool) (old new : B) → Within those these
      → Touches means those p e b old new → Touches means these p e b old new
  touches_more these those old new within run = record {
    others = λ told. elsewhere_on these those (means.flash old) (means.flash old) (means.flash new) within
        (kept_elsewhere (same_elsewhere these (means.flash old) (means.flash old) refl)) (run.others told);
    leaves = λ told. weaker means old new (IsImage (means.device old).blocks (loosened these (means.flash old)))
        (IsImage (means.device old).blocks (loosened those (means.flash old))) (run.leaves told)
        (λ image is. image_of_more (means.device old).blocks those these (means.flash old) image within is);
    unsent = run.unsent;
    same = run.same;
    work = run.work;
  }
