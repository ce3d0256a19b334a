-- What the images of a change of the directory hold beside it.
use Rattle.std.proofs.Common.{◌≡◌, inl, inr, ℕ, Bool, List, ◌∙◌, ap}
use Rattle.board.specs.Flash.{Flash, IsImage, loosened}
use Rattle.board.specs.Meaning.{BoardMeaning}
use Rattle.board.specs.Moments.{LeavesOnly}
use Rattle.board.specs.Touches.{KeptElsewhere}
use Rattle.board.proofs.Pages.{image_of_more}
use Rattle.board.proofs.Touching.{Within, image_since}
use Rattle.board.proofs.Stops.{leaves_both}
use Rattle.commit_gate.specs.Commits.{with_entry}
use Rattle.meta_journal.specs.Journals.{Holds, HoldsEither}
use Rattle.meta_journal.specs.Standing.{AllFirm}
use Rattle.store_directory.specs.Directory.{Directory}
use Rattle.vault.specs.Changing.{journal_pages}

-- among more pages
pub either_more : (blocks : ℕ) (these those : ℕ → Bool) (flash : Flash) (before after : Directory) (image : ℕ → List ℕ) → Within these those
    → HoldsEither blocks these flash before after image → HoldsEither blocks those flash before after image
either_more blocks these those flash before after image within (inl was) =
    inl (record { holds = was.holds; elsewhere = image_of_more blocks these those flash image within was.elsewhere })
either_more blocks these those flash before after image within (inr now) =
    inr (record { holds = now.holds; pages = now.pages; elsewhere = λ p high out. now.elsewhere p high (within p out) })

-- seen from before other steps of these pages
pub either_since : (blocks : ℕ) (these : ℕ → Bool) (old mid : Flash) (before after : Directory) (image : ℕ → List ℕ) → KeptElsewhere these old mid
    → HoldsEither blocks these mid before after image → HoldsEither blocks these old before after image
either_since blocks these old mid before after image kept (inl was) =
    inl (record {
      holds = was.holds;
      elsewhere = image_since blocks these these old mid image (λ p out. out) kept.content kept.firm was.elsewhere;
    })
either_since blocks these old mid before after image kept (inr now) =
    inr (record { holds = now.holds; pages = now.pages; elsewhere = λ p high out. now.elsewhere p high out ∙ kept.content p out })

-- nothing is loose behind an entry
pub entry_firm : (base at : ℕ) (entry : List ℕ) (old new : Flash) → new ≡ with_entry base at entry old → AllFirm new
entry_firm base at entry old new is p = ap (λ (f : Flash). f.loose p) is

-- while room is made, each image holds the directory from before
pub before_room : {B : Type 0} (means : BoardMeaning B) (old mid : B) (blocks : ℕ) (before after : Directory) → LeavesOnly means old mid (Holds blocks before)
    → LeavesOnly means old mid (IsImage blocks (loosened journal_pages (means.flash old)))
    → LeavesOnly means old mid (HoldsEither blocks journal_pages (means.flash old) before after)
before_room means old mid blocks before after holds leaves =
    leaves_both means old mid (Holds blocks before) (IsImage blocks (loosened journal_pages (means.flash old)))
    (HoldsEither blocks journal_pages (means.flash old) before after) holds leaves
    (λ image held is. inl (record { holds = held; elsewhere = is }))
