-- The pages of a half.
use Rattle.std.proofs.Common.{◌≡◌, ℕ, ◌+◌, ◌*◌, ◌≤◌, arith}
use Rattle.std.proofs.lemmas.Bool.Decides.{nat_tests}
use Rattle.board.specs.Flash.{pages_from, pages_of_block}
use Rattle.board.proofs.Touching.{Within}
use Rattle.root_vote.specs.Rooted.{is_root_block}
use Rattle.meta_journal.specs.Halves.{format_pages, half_base, half_pages}

pub block_within : (block base : ℕ) → base ≤ 256 * block → 256 * block ≤ base + 256 → Within (pages_of_block block) (half_pages base)
block_within block base low high p out = grind (arith, nat_tests)

pub text_within : (base first n : ℕ) → first ≡ base → n ≤ 512 → Within (pages_from first n) (half_pages base)
text_within base first n is short p out = grind (arith, nat_tests)

-- those of a format
pub half_formatted : Within (half_pages (half_base 0)) format_pages
half_formatted p out = grind (arith, nat_tests)

pub roots_formatted : Within is_root_block format_pages
roots_formatted p out = grind (arith, nat_tests)
