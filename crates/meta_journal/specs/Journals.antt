-- The journal that a flash keeps, and what images hold while it changes.
use Rattle.std.specs.Prelude.{◌≡◌, ◌⊎◌, ℕ, ◌+◌, ◌*◌, ◌%◌, ◌^◌, ◌<◌, true, false, Bool, ◌||◌}
use Rattle.std.specs.Prelude.{if◌then◌else◌, List, Option, Some}
use Rattle.board.specs.Flash.{Flash, IsContent, IsImage, loosened}
use Rattle.commit_gate.specs.Commits.{IsCleanFrom, Stands}
use Rattle.commit_gate.specs.Entries.{Entry, text_at}
use Rattle.root_vote.specs.declared.root.Root.{Root}
use Rattle.root_vote.specs.Rooted.{Rooted, is_root_block}
use Rattle.root_vote.specs.Roots.{are_all}
use Rattle.store_directory.specs.Directory.{Directory}
use Rattle.meta_journal.specs.Directories.{directory_by, directory_of, half_area, is_own}
use Rattle.meta_journal.specs.Halves.{half_base, half_of, half_pages}

-- no page of the blocks 0 to 6 is loose
abbrev pub FirmJournal : Flash → Type 0
FirmJournal flash = (p : ℕ) → p < 1792 → flash.loose p ≡ false

-- The three root pages are this root of the device, its half holds this directory, and a stop
-- leaves all that. The half's entries end at the page `at`, and the pages from there on are clean.
pub record IsJournal (blocks : ℕ) (root : Root) (d : Directory) (at : ℕ) (flash : Flash)
    : Type 0 where
  pub own : is_own blocks root ≡ true
  pub rooted : Rooted root flash
  pub text : List ℕ
  pub start : ℕ
  pub checkpoint : text_at 20476 (half_area (half_of root) flash.content) 0 ≡ Entry text start
  pub entries : List (List ℕ)
  pub stands : Stands flash (half_base (half_of root)) start entries at
  pub holds : directory_by blocks text entries ≡ Some d
  pub clean : IsCleanFrom flash (half_base (half_of root)) at
  pub is_firm : FirmJournal flash

-- an image holds a directory
abbrev pub Holds : (blocks : ℕ) → Directory → (ℕ → List ℕ) → Type 0
Holds blocks d image = directory_of blocks image ≡ Some d

-- The image holds the directory from before these pages were written, and each other page that was
-- firm is as it was.
pub record HoldsBefore (blocks : ℕ) (these : ℕ → Bool) (flash : Flash) (before : Directory)
    (image : ℕ → List ℕ) : Type 0 where
  pub holds : Holds blocks before image
  pub elsewhere : IsImage blocks (loosened these flash) image

-- It holds the one behind, and each other page is as it was, also one that had been loose.
pub record HoldsAfter (blocks : ℕ) (these : ℕ → Bool) (flash : Flash) (after : Directory)
    (image : ℕ → List ℕ) : Type 0 where
  pub holds : Holds blocks after image
  pub pages : IsContent blocks image
  pub elsewhere : (p : ℕ) → p < 256 * blocks → these p ≡ false → image p ≡ flash.content p

-- it holds the one or the other
abbrev pub HoldsEither : (blocks : ℕ) → (these : ℕ → Bool) → Flash → (before after : Directory)
    → (ℕ → List ℕ) → Type 0
HoldsEither blocks these flash before after image =
    HoldsBefore blocks these flash before image ⊎ HoldsAfter blocks these flash after image

-- the root behind one, which names the other half: the generation behind the greatest is 0
abbrev pub next_of : Root → Root
next_of root = record root { generation = (root.generation + 1) % 2 ^ 64 }

-- the pages that a switch from this root touches: the root blocks, and the half that it does not
-- name
abbrev pub switch_pages : Root → ℕ → Bool
switch_pages root p = is_root_block p || half_pages (half_base (half_of (next_of root))) p

-- the programs and erases that a repair in front of a switch takes at most
abbrev pub repair_work : List (Option Root) → Root → ℕ
repair_work votes root = if are_all votes root then 0 else 2
