-- The text of the checkpoint that a format writes.
use Rattle.std.proofs.Common.{◌≡◌, ℕ, ◌+◌, ◌*◌, ◌≤◌, List, [], ◌∷◌, ◌++◌, length, replicate, take, refl, sym, ◌∙◌, ap, subst, length-append}
use Rattle.std.proofs.lemmas.List.{length-replicate, take-replicate}
use Rattle.byteorder.specs.Numbers.{length-bytes_high_first}
use Rattle.octet_fields.specs.Fields.{Writes, big_bytes}
use Rattle.octet_fields.proofs.Rows.{length-rows}
use Rattle.octet_fields.proofs.Splices.{Writes-then}
use Rattle.store_directory.specs.Checkpoints.{checkpoint_octets, counts_octets, listed_octets, patterns_octets}
use Rattle.control_defs.specs.declared.patterns.Pattern.TheVariants.{Every}
use Rattle.store_directory.specs.Format.{first_directory, first_row, first_store}
use Rattle.store_directory.specs.Views.{listed_as}
use Rattle.store_directory.specs.declared.row.Row.{Row}

-- what stands in front of the erase counts
abbrev first_front : List ℕ
first_front =
    (((big_bytes 6 0 ++ big_bytes 2 0) ++ 0 ∷ patterns_octets []) ++ 1 ∷ []) ++ listed_octets first_store

first_octets : (wear : List ℕ) → first_front ++ counts_octets wear ≡ checkpoint_octets first_directory wear
unfolding checkpoint_octets
first_octets wear = refl

pub length-first_octets : (wear : List ℕ) → length (checkpoint_octets first_directory wear) ≡ 47 + 4 * length wear
length-first_octets wear =
    ap length (sym (first_octets wear)) ∙ length-append first_front (counts_octets wear)
    ∙ ap (λ n. 47 + n) (length-rows (big_bytes 4) 4 (length-bytes_high_first 4) wear)

-- the counts that are written
pub no_counts : (blocks : ℕ) → blocks ≤ 512 → take blocks (replicate {A = ℕ} 512 0) ≡ replicate blocks 0
no_counts blocks most = take-replicate blocks 512 0 most

pub length-no_counts : (blocks : ℕ) → blocks ≤ 512 → length (take blocks (replicate {A = ℕ} 512 0)) ≡ blocks
length-no_counts blocks most = ap length (no_counts blocks most) ∙ length-replicate blocks 0

pub length-first : (blocks : ℕ) → length (checkpoint_octets first_directory (replicate blocks 0)) ≡ 47 + 4 * blocks
length-first blocks = length-first_octets (replicate blocks 0) ∙ ap (λ n. 47 + 4 * n) (length-replicate blocks 0)

-- one part behind another
module _ {a b d e f g : List ℕ} {second third fourth last : ℕ} (row : Row) (counts : List ℕ) (blocks : ℕ) (is : row ≡ first_row) (are : counts ≡ replicate blocks 0) where
  pub first_written : Writes a b 0 (big_bytes 6 0 ++ big_bytes 2 0) → Writes b d second (0 ∷ patterns_octets [])
      → Writes d e third (1 ∷ []) → Writes e f fourth (listed_octets (listed_as row (Every ∷ []) [])) → Writes f g last (counts_octets counts)
      → second ≡ 8 → third ≡ 9 → fourth ≡ 10 → last ≡ 47 → Writes a g 0 (checkpoint_octets first_directory (replicate blocks 0))
  first_written head patterns number store wear at_second at_third at_fourth at_last =
      subst (Writes a g 0) (first_octets (replicate blocks 0))
      (Writes-then (Writes-then (Writes-then (Writes-then head patterns at_second) number at_third)
      (subst (λ (r : Row). Writes e f fourth (listed_octets (listed_as r (Every ∷ []) []))) is store) at_fourth)
      (subst (λ (ns : List ℕ). Writes f g last (counts_octets ns)) are wear) at_last)
