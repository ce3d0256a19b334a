-- The checkpoint of a format gives its directory.
use Rattle.std.proofs.Common.{◌≡◌, ℕ, ◌^◌, ◌<◌, ◌≤◌, true, List, [], ◌∷◌, Option, Some, All, length, take, drop, replicate, refl, ◌∙◌, ap, subst, arith}
use Rattle.std.proofs.lemmas.List.{length-replicate}
use Rattle.std.proofs.lemmas.List.Elements.{All-replicate}
use Rattle.std.proofs.Math.Seq.{take-append_seam}
use Rattle.octet_fields.specs.Fields.{Writes}
use Rattle.octet_fields.proofs.Splices.{Writes-at_front}
use Rattle.store_directory.specs.Changes.{apply}
use Rattle.store_directory.specs.Checkpoints.{Checkpoint, checkpoint_in, is_lawful, read_checkpoint}
use Rattle.store_directory.specs.Directory.{FitsLink}
use Rattle.store_directory.specs.Fitting.{FitPatterns, FitsDirectory, FitsListed}
use Rattle.store_directory.specs.Format.{first_directory, first_row, first_store}
use Rattle.store_directory.specs.Rows.{FitsRow}
use Rattle.control_defs.specs.Patterns.{IsPattern}
use Rattle.control_defs.specs.declared.patterns.Pattern.{Pattern}
use Rattle.control_defs.specs.declared.patterns.Pattern.TheVariants.{Every}
use Rattle.store_directory.specs.Options.{◌>>=◌, given}
use Rattle.store_directory.proofs.FirstCheckpoints.{length-first}
use Rattle.store_directory.proofs.WrittenCheckpoints.{checkpoint_in-octets}
use Rattle.meta_journal.specs.Directories.{directory_by}
use Rattle.meta_journal.specs.Formats.{first_pages, first_text}

row_fits : FitsRow first_row
row_fits = record {
  identifier = omega arith;
  size = omega arith;
  channel = omega arith;
  first = omega arith;
  count = omega arith;
  behind = omega arith;
  next = omega arith;
  end = omega arith;
}

none_fit : FitPatterns []
none_fit = record { few = omega arith; each = All-replicate {X = Pattern} IsPattern 0 Every tt }

every_fits : FitPatterns (Every ∷ [])
every_fits = record { few = omega arith; each = All-replicate {X = Pattern} IsPattern 1 Every tt }

store_fits : FitsListed first_store
store_fits = record {
  row = row_fits;
  patterns = every_fits;
  few = omega arith;
  links = All-replicate FitsLink 0 (record { block = 0; first = 0 }) (omega arith, omega arith);
}

first_fits : FitsDirectory first_directory
first_fits = record {
  now = omega arith;
  reports = omega arith;
  forward = none_fit;
  few = omega arith;
  stores = All-replicate FitsListed 1 first_store store_fits;
}

first_lawful : is_lawful first_directory ≡ true
unfolding is_lawful apply
first_lawful = refl

no_counts_fit : (n : ℕ) → All (λ (count : ℕ). count < 2 ^ 32) (replicate n 0)
no_counts_fit n = All-replicate (λ (count : ℕ). count < 2 ^ 32) n 0 (omega arith)

spelled : (blocks : ℕ) → checkpoint_in blocks (first_text blocks) ≡ Some (record { directory = first_directory; wear = replicate blocks 0 })
spelled blocks = subst (λ n. checkpoint_in n (first_text blocks) ≡ Some (record { directory = first_directory; wear = replicate blocks 0 })) (length-replicate blocks 0)
    (checkpoint_in-octets first_directory (replicate blocks 0) first_fits (no_counts_fit blocks))

judged : (found : Option Checkpoint) (c : Checkpoint) → found ≡ Some c → is_lawful c.directory ≡ true → (found >>= λ x. given (is_lawful x.directory) >>= λ _. Some x) ≡ Some c
judged found c is lawful = ap (λ f. f >>= λ x. given (is_lawful x.directory) >>= λ _. Some x) is ∙ ap (λ t. given t >>= λ _. Some c) lawful

read_first : (blocks : ℕ) → read_checkpoint blocks (first_text blocks) ≡ Some (record { directory = first_directory; wear = replicate blocks 0 })
unfolding read_checkpoint
read_first blocks = judged (checkpoint_in blocks (first_text blocks)) (record { directory = first_directory; wear = replicate blocks 0 }) (spelled blocks) first_lawful

pub first_held : (blocks : ℕ) → directory_by blocks (first_text blocks) [] ≡ Some first_directory
first_held blocks = ap (λ (f : Option Checkpoint). f >>= λ c. Some c.directory) (read_first blocks)

pub first_short : (blocks : ℕ) → blocks ≤ 512 → (1 ≤ length (first_text blocks)) × (length (first_text blocks) ≤ 2095)
first_short blocks most = (omega (arith, length-first blocks), omega (arith, length-first blocks))

-- what was written at the front of a buffer
pub front_written : (old new ys : List ℕ) (n : ℕ) → Writes old new 0 ys → n ≡ length ys → take n new ≡ ys
front_written old new ys n written is =
    (λ i. take (is i) (Writes-at_front written i)) ∙ take-append_seam ys (drop (length ys) old)

-- the checkpoint of 16 blocks fills one page
pub first_page_alone : (blocks : ℕ) → blocks ≡ 16 → first_pages blocks ≡ 1
first_page_alone blocks is = omega (arith, length-first blocks)
