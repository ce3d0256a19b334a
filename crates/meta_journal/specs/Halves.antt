-- The halves of a journal, and the flash while one is begun.
use Rattle.std.specs.Prelude.{◌≡◌, ℕ, ◌+◌, ◌*◌, ◌%◌, ◌<◌, Bool, false, List}
use Rattle.board.specs.Flash.{Flash, firm, pages_from, pages_of_block, wiped}
use Rattle.commit_gate.specs.Commits.{with_text}
use Rattle.root_vote.specs.declared.root.Root.{Root}

-- the half that a root names
abbrev pub half_of : Root → ℕ
half_of root = root.generation % 2

-- the first block of a half, and its first page
abbrev pub half_block : (half : ℕ) → ℕ
half_block half = 3 + 2 * half

abbrev pub half_base : (half : ℕ) → ℕ
half_base half = 256 * half_block half

-- the pages of the half whose first page this is
abbrev pub half_pages : (base : ℕ) → ℕ → Bool
half_pages base = pages_from base 512

-- both blocks from this one on are erased, and a checkpoint is written at their front
abbrev pub erased_half : (block : ℕ) → Flash → Flash
erased_half block flash =
    firm (wiped (pages_of_block (block + 1)) (wiped (pages_of_block block) flash))

abbrev pub with_checkpoint : (block : ℕ) → (text : List ℕ) → Flash → Flash
with_checkpoint block text flash = firm (with_text (256 * block) 0 text (erased_half block flash))

-- no page of a half is loose
abbrev pub IsFirmHalf : (half : ℕ) → Flash → Type 0
IsFirmHalf half flash = (q : ℕ) → q < 512 → flash.loose (half_base half + q) ≡ false

-- the root of a format
abbrev pub first_root : (blocks : ℕ) → Root
first_root blocks = record { generation = 0; blocks = blocks; version = 1 }

-- the pages that a format touches: the blocks 0 to 4
abbrev pub format_pages : ℕ → Bool
format_pages = pages_from 0 1280
