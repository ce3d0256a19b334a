-- What a format writes.
use Rattle.std.specs.Prelude.{◌≡◌, ℕ, ◌+◌, ◌*◌, ◌<◌, ◌≤◌, false, List, length, replicate}
use Rattle.board.specs.Flash.{Flash, blank}
use Rattle.commit_gate.specs.Commits.{IsCleanFrom, payload_page}
use Rattle.commit_gate.specs.Entries.{payload_pages}
use Rattle.root_vote.specs.Rooted.{with_roots}
use Rattle.root_vote.specs.Roots.{root_page}
use Rattle.store_directory.specs.Checkpoints.{checkpoint_octets}
use Rattle.store_directory.specs.Format.{first_directory}
use Rattle.meta_journal.specs.Halves.{first_root, half_base, half_block, with_checkpoint}

-- the text of the checkpoint, where no block has been erased yet
abbrev pub first_text : (blocks : ℕ) → List ℕ
first_text blocks = checkpoint_octets first_directory (replicate blocks 0)

abbrev pub first_pages : (blocks : ℕ) → ℕ
first_pages blocks = payload_pages (length (first_text blocks))

-- the flash after a format: half 0 is erased and has the checkpoint, and then the roots are written
abbrev pub after_format : (blocks : ℕ) → Flash → Flash
after_format blocks flash =
    with_roots (first_root blocks) (with_checkpoint (half_block 0) (first_text blocks) flash)

-- The three root pages are the root of generation 0, half 0 is the checkpoint with clean and blank
-- pages behind it, and a stop leaves all that.
pub record IsFormatted (blocks : ℕ) (flash : Flash) : Type 0 where
  pub roots : (block : ℕ) → block < 3
      → flash.content (256 * block) ≡ root_page (first_root blocks)
  pub text : (q : ℕ) → q < first_pages blocks
      → flash.content (half_base 0 + q) ≡ payload_page (first_text blocks) q
  pub clean : IsCleanFrom flash (half_base 0) (first_pages blocks)
  pub blank_pages : (q : ℕ) → first_pages blocks ≤ q → q < 512
      → flash.content (half_base 0 + q) ≡ blank
  pub is_firm : (p : ℕ) → flash.loose p ≡ false
