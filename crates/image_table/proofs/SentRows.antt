-- The row of a store behind a packet that was sent, and what the store keeps then.
use Rattle.std.proofs.Common.{◌≡◌, ℕ, zero, suc, ◌+◌, ◌<◌, ◌≤◌, ◌&&◌, not, nat_le, nat_lt, Bool, true, false, List, [], ◌∷◌, length, Option, Some, refl, sym, ◌∙◌, ap, arith}
use Rattle.std.proofs.lemmas.Bool.{and_from, and_parts, not-true}
use Rattle.std.proofs.lemmas.Bool.Decides.{nat_tests}
use Rattle.block_pool.specs.Sizes.{blocks_for_size}
use Rattle.control_defs.specs.Lists.{is_pattern_list}
use Rattle.pst_model.specs.Rules.{range_sent}
use Rattle.pst_model.specs.Table.{Store}
use Rattle.record_view.specs.Records.{Meaning}
use Rattle.record_view.specs.declared.link.Link.{Link}
use Rattle.retrieval.specs.Grants.{with_positions}
use Rattle.retrieval.specs.Picks.{IsNext, sent_row}
use Rattle.retrieval.proofs.Firsts.{range_ends}
use Rattle.store_directory.specs.Checkpoints.{is_lawful_listed}
use Rattle.store_directory.specs.Directory.{Listed, trimmed}
use Rattle.store_directory.specs.Rows.{is_by, is_lawful_row, is_range}
use Rattle.store_directory.specs.declared.row.Row.{Row}
use Rattle.store_directory.proofs.Puts.{trimmed-none}
use Rattle.store_load.specs.Kept.{begins_well, kept_of}
use Rattle.store_load.specs.declared.rule.Rule.{Rule}
use Rattle.store_load.proofs.Counting.{kept_parts}
use Rattle.image_table.specs.Table.{store_of, store_with, table_rule}
use Rattle.image_table.proofs.Frames.{kept_store, store_kept}

-- the row is lawful still

range_lawful : (count next end : ℕ) → next < end → end ≤ count → is_range count (range_sent (Some (next, end))) ≡ true
range_lawful count next end lt le = by (nat_lt (next + 1) end) refl
  where
    both : (next end count : ℕ) → nat_lt (next + 1) end ≡ true → end ≤ count → (nat_lt (next + 1) end && nat_le end count) ≡ true
    both next end count lt le = grind (arith, nat_tests)

    by : (more : Bool) → nat_lt (next + 1) end ≡ more → is_range count (range_sent (Some (next, end))) ≡ true
    by true more = rw more (both next end count more le)
    by false more = rw more refl

pub sent_lawful : (range : Bool) (position : ℕ) (row : Row) → IsNext range position row → is_lawful_row row ≡ true → is_lawful_row (sent_row range row) ≡ true
sent_lawful true position row next lawful =
    let parts = and_parts (nat_le 1 row.size && nat_le row.size 100000 && nat_le 1 row.channel && nat_le row.channel 7 && nat_le row.count row.size && nat_le row.behind row.count) (is_range row.count row.range) lawful in
    let ends = range_ends row.count position next.0 (ap (is_range row.count) (sym next.1) ∙ parts.1) in
    and_from (nat_le 1 row.size && nat_le row.size 100000 && nat_le 1 row.channel && nat_le row.channel 7 && nat_le row.count row.size && nat_le row.behind row.count)
    (is_range row.count (range_sent row.range)) parts.0
    (ap (λ (r : Option (ℕ × ℕ)). is_range row.count (range_sent r)) next.1 ∙ range_lawful row.count position next.0 ends.0 ends.1)
sent_lawful false position row next lawful =
    let parts = and_parts (nat_le 1 row.size && nat_le row.size 100000 && nat_le 1 row.channel && nat_le row.channel 7 && nat_le row.count row.size && nat_le row.behind row.count) (is_range row.count row.range) lawful in
    let front = and_parts (nat_le 1 row.size && nat_le row.size 100000 && nat_le 1 row.channel && nat_le row.channel 7 && nat_le row.count row.size) (nat_le row.behind row.count) parts.0 in
    let more : nat_le (row.behind + 1) row.count ≡ true = one_more row.behind row.count next.1 in
    rw (front.0, more, parts.1) refl
  where
    one_more : (behind count : ℕ) → behind < count → nat_le (behind + 1) count ≡ true
    one_more behind count lt = grind (arith, nat_tests)

-- the store with that row
abbrev pub sent_listed : (range : Bool) → Listed → Listed
sent_listed range s = record { row = sent_row range s.row; patterns = s.patterns; links = s.links }

pub same_identifier : (range : Bool) (s : Listed) → (sent_listed range s).identifier ≡ s.identifier
same_identifier true s = refl
same_identifier false s = refl

pub same_size : (range : Bool) (s : Listed) → (sent_listed range s).size ≡ s.size
same_size true s = refl
same_size false s = refl

same_first : (range : Bool) (row : Row) → (sent_row range row).first ≡ row.first
same_first true row = refl
same_first false row = refl

same_count : (range : Bool) (row : Row) → (sent_row range row).count ≡ row.count
same_count true row = refl
same_count false row = refl

pub listed_lawful : (range : Bool) (position : ℕ) (s : Listed) → IsNext range position s.row → is_lawful_listed s ≡ true → is_lawful_listed (sent_listed range s) ≡ true
listed_lawful range position s next lawful =
    let parts = and_parts (is_lawful_row s.row && is_pattern_list s.patterns) (nat_le (length s.links) (blocks_for_size s.size)) lawful in
    let rows = and_parts (is_lawful_row s.row) (is_pattern_list s.patterns) parts.0 in
    let room : nat_le (length s.links) (blocks_for_size (sent_row range s.row).size) ≡ true =
    ap (λ (n : ℕ). nat_le (length s.links) (blocks_for_size n)) (same_size range s) ∙ parts.1 in
    and_from (is_lawful_row (sent_row range s.row) && is_pattern_list s.patterns) (nat_le (length s.links) (blocks_for_size (sent_row range s.row).size))
    (and_from (is_lawful_row (sent_row range s.row)) (is_pattern_list s.patterns) (sent_lawful range position s.row next rows.0) rows.1) room

-- no link is trimmed

pub untrimmed : (row : Row) (links : List Link) → begins_well row links ≡ true → trimmed row.first row.count links ≡ links
untrimmed row [] begins = trimmed-none row.first row.count
untrimmed row (link ∷ []) begins = by row.count (and_parts (nat_lt 0 row.count) (is_by link.first row.first) begins).0
  where
    by : (count : ℕ) → nat_lt 0 count ≡ true → trimmed row.first count (link ∷ []) ≡ link ∷ []
    by zero some = absurd cc
    by (suc count) some = refl
untrimmed row (link ∷ next ∷ links) begins =
    let parts = and_parts (nat_lt 0 row.count && is_by link.first row.first) (not (is_by next.first row.first)) begins in
    by row.count (and_parts (nat_lt 0 row.count) (is_by link.first row.first) parts.0).0 (not-true (is_by next.first row.first) parts.1)
  where
    by : (count : ℕ) → nat_lt 0 count ≡ true → is_by next.first row.first ≡ false → trimmed row.first count (link ∷ next ∷ links) ≡ link ∷ next ∷ links
    by zero some later = absurd cc
    by (suc count) some later = rw later refl

-- the records that are kept
sent_kept : (rule : Rule) (image : ℕ → List ℕ) (now : ℕ) (range : Bool) (row : Row) (links : List Link) → kept_of rule image now (sent_row range row) links ≡ kept_of rule image now row links
unfolding kept_of
sent_kept rule image now true row [] = refl
sent_kept rule image now true row (link ∷ []) = refl
sent_kept rule image now true row (link ∷ next ∷ links) = refl
sent_kept rule image now false row [] = refl
sent_kept rule image now false row (link ∷ []) = refl
sent_kept rule image now false row (link ∷ next ∷ links) = refl

with_sent : (range : Bool) (s : Listed) (records : List Meaning) → store_with (sent_listed range s) records ≡ with_positions (sent_row range s.row) (store_with s records)
with_sent true s records = refl
with_sent false s records = refl

module _ (image : ℕ → List ℕ) (now : ℕ) (range : Bool) (s : Listed) (store : Store) (is : store_of image now s ≡ Some store) where
  pub store_sent : store_of image now (sent_listed range s) ≡ Some (with_positions (sent_row range s.row) store)
  store_sent =
      let (records, kept, whole) = store_kept image now s store is in
      kept_store image now (sent_listed range s) records (sent_kept table_rule image now range s.row s.links ∙ kept)
      ∙ ap Some (with_sent range s records ∙ ap (with_positions (sent_row range s.row)) whole)

  pub links_stay : trimmed (sent_row range s.row).first (sent_row range s.row).count s.links ≡ s.links
  links_stay =
      let (records, kept, whole) = store_kept image now s store is in
      (λ i. trimmed (same_first range s.row i) (same_count range s.row i) s.links)
      ∙ untrimmed s.row s.links (kept_parts table_rule image now s.row s.links records kept).begins
