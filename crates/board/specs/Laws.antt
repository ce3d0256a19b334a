-- What holds of each board in memory.
use Rattle.std.specs.Prelude.{◌≡◌, ℕ, suc, ◌*◌, Bool, true, false, List, [], ◌∷◌, All, cond, length}
use Rattle.std.proofs.Common.{refl, subst, arith}
use Rattle.std.proofs.lemmas.Bool.{false≢true}
use Rattle.std.proofs.lemmas.List.{take_all}
use Rattle.board.specs.declared.history.History.{History}
use Rattle.board.specs.declared.memory.MemBoard.{MemBoard}
use Rattle.board.specs.declared.step.First.{First}
use Rattle.board.specs.declared.step.First.TheVariants.{Blank, Pages}
use Rattle.board.specs.declared.step.Step.{Step}
use Rattle.board.specs.declared.step.Step.TheVariants.{Program, TornProgram, Erase, TornErase, Barrier, Send}
use Rattle.board.specs.Flash.{Flash, IsContent, IsImage, IsPage, blank, only_page, pages_of_block}
use Rattle.board.specs.History.{IsStep, first_flash, flash_after, flash_after_step}
use Rattle.board.specs.Memory.{flash_of, image_at, moment_of}

pub images_now : (board : MemBoard) (image : ℕ → List ℕ) → image_at board (moment_of board) image → IsImage board.history.blocks (flash_of board) image
images_now board image is =
    let steps = board.history.steps.items in
    subst (λ (s : List Step). IsImage board.history.blocks (flash_after s (first_flash board.history.first)) image) (take_all (length steps) steps (omega arith)) is

-- one of two
pick : {A : Type 0} (P : A → Type 0) (b : Bool) (new old : A) → P new → P old → P (cond b new old)
pick P true new old here there = here
pick P false new old here there = there

-- erased pages are blank
abbrev pub ErasedBlank : Flash → Type 0
ErasedBlank flash = (p : ℕ) → flash.erased p ≡ true → flash.content p ≡ blank

spoil : (b erased : Bool) (new old : List ℕ) → (erased ≡ true → old ≡ blank) → cond b false erased ≡ true → cond b new old ≡ blank
spoil true erased new old known is = absurd (false≢true is)
spoil false erased new old known is = known is

wipe : (b erased : Bool) (old : List ℕ) → (erased ≡ true → old ≡ blank) → cond b true erased ≡ true → cond b blank old ≡ blank
wipe true erased old known is = refl
wipe false erased old known is = known is

blank_after_step : (step : Step) (flash : Flash) → ErasedBlank flash → ErasedBlank (flash_after_step step flash)
blank_after_step (Program place octets) flash known p is = spoil (only_page place p) (flash.erased p) octets.value (flash.content p) (known p) is
blank_after_step (TornProgram place) flash known p is = spoil (only_page place p) (flash.erased p) (flash.content p) (flash.content p) (known p) is
blank_after_step (Erase block) flash known p is = wipe (pages_of_block block p) (flash.erased p) (flash.content p) (known p) is
blank_after_step (TornErase block) flash known p is = spoil (pages_of_block block p) (flash.erased p) (flash.content p) (flash.content p) (known p) is
blank_after_step Barrier flash known p is = known p is
blank_after_step (Send length) flash known p is = known p is

blank_after : (steps : List Step) (flash : Flash) → ErasedBlank flash → ErasedBlank (flash_after steps flash)
blank_after [] flash known = known
blank_after (step ∷ steps) flash known = blank_after steps (flash_after_step step flash) (blank_after_step step flash known)

blank_first : (first : First) → ErasedBlank (first_flash first)
blank_first Blank p is = refl
blank_first (Pages pages) p is = absurd (false≢true is)

pub erased_blank : (board : MemBoard) → ErasedBlank (flash_of board)
erased_blank board = blank_after board.history.steps.items (first_flash board.history.first) (blank_first board.history.first)

-- each page of a step has 256 octets, so each of the flash does
pub content_after_step : (n : ℕ) (step : Step) (flash : Flash) → IsStep n step → (p : ℕ) → IsPage (flash.content p) → IsPage ((flash_after_step step flash).content p)
content_after_step n (Program place octets) flash fits p page = pick IsPage (only_page place p) octets.value (flash.content p) fits.octets page
content_after_step n (TornProgram place) flash fits p page = pick IsPage (only_page place p) (flash.content p) (flash.content p) page page
content_after_step n (Erase block) flash fits p page = pick IsPage (pages_of_block block p) blank (flash.content p) fits.octets page
content_after_step n (TornErase block) flash fits p page = pick IsPage (pages_of_block block p) (flash.content p) (flash.content p) page page
content_after_step n Barrier flash fits p page = page
content_after_step n (Send length) flash fits p page = page

pub content_after : (n : ℕ) (steps : List Step) (flash : Flash) → All (IsStep n) steps → (p : ℕ) → IsPage (flash.content p) → IsPage ((flash_after steps flash).content p)
content_after n [] flash fit p page = page
content_after n (step ∷ steps) flash fit p page =
    content_after n steps (flash_after_step step flash) (λ k d lt. fit (suc k) d (omega arith)) p (content_after_step n step flash (fit 0 step (omega arith)) p page)

pub content_pages : (history : History) → IsContent history.blocks (flash_after history.steps.items (first_flash history.first)).content
content_pages history p lt = content_after (256 * history.blocks) history.steps.items (first_flash history.first) history.steps_fit p (history.first_fits p lt)
