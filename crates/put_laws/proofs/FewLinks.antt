-- A store whose blocks are all full has room for one more.
use Rattle.std.proofs.Common.{◌≡◌, ℕ, suc, ◌+◌, ◌*◌, ◌-◌, ◌≤◌, ◌&&◌, nat_le, nat_lt, true, not, List, [], ◌∷◌, ◌++◌, append-nil, length, drop, sym, ◌∙◌, ap, subst, arith}
use Rattle.std.proofs.lemmas.Bool.{leb-true, not-true}
use Rattle.std.proofs.lemmas.List.Elements.{All-head, All-tail}
use Rattle.block_pool.specs.Sizes.{blocks_for_size}
use Rattle.record_view.specs.Records.{Meaning}
use Rattle.record_view.specs.declared.link.Link.{Link}
use Rattle.store_directory.specs.Rows.{between, is_by}
use Rattle.store_directory.specs.declared.row.Row.{Row}
use Rattle.store_load.specs.Extents.{end_of, extent_to, extents_from, joined, last_read, pages_in, read_extent}
use Rattle.store_load.specs.Keeping.{IsLinkOf, Keeps}
use Rattle.store_load.specs.Kept.{are_filled}
use Rattle.store_load.specs.Frame.{pages_read}
use Rattle.store_load.specs.Moving.{used_by}
use Rattle.store_load.proofs.Counting.{extents_length, first_by, kept_parts}
use Rattle.store_load.proofs.Eachs.{each_cons, each_length, one, two}
use Rattle.store_load.proofs.Full.{few_dead}
use Rattle.store_load.proofs.More.{last_spelled}
use Rattle.store_load.proofs.Records.{extent_length, extent_within, few_records}
use Rattle.store_load.proofs.Takings.{drop_both, pages_both}
use Rattle.image_table.specs.Table.{table_rule}
use Rattle.put_laws.specs.Puts.{IsFull}

full_pages : (reads : List (List Meaning)) → are_filled 240 reads ≡ true → 240 ≤ pages_in (last_read reads) → 240 * length reads ≤ pages_in (joined reads)
full_pages [] filled last = omega arith
full_pages (records ∷ []) filled last = omega (arith, last, ap pages_in (append-nil records))
full_pages (records ∷ next ∷ reads) filled last =
    let here = leb-true 240 (pages_in records) (one (nat_le 240 (pages_in records)) (are_filled 240 (next ∷ reads)) filled) in
    let behind = full_pages (next ∷ reads) (two (nat_le 240 (pages_in records)) (are_filled 240 (next ∷ reads)) filled) last in
    omega (arith, here, behind, pages_both records (joined (next ∷ reads)))

module _ (blocks : ℕ) (image : ℕ → List ℕ) (now : ℕ) (row : Row) where
  pub few_links : (links : List Link) (records : List Meaning) → Keeps table_rule blocks image now row links records → IsFull image row links
      → length links + 1 ≤ blocks_for_size row.size
  few_links [] records keeps full = omega arith
  few_links (link ∷ []) records keeps full = omega arith
  few_links (link ∷ next ∷ links) records keeps full =
      let are = kept_parts table_rule image now row (link ∷ next ∷ links) records keeps.kept in
      let (first, rest, is, behind, whole) = each_cons (read_extent image) (extent_to next.first link) (extents_from (end_of row) next links) are.reads are.read in
      let last : pages_in (last_read are.reads) ≡ used_by image row link (next ∷ links) =
      sym (ap pages_read (last_spelled image (end_of row) link (next ∷ links) are.reads are.read)) in
      let all_full = subst (λ (l : List (List Meaning)). are_filled 240 l ≡ true) (sym whole) are.filled in
      let many : length rest ≡ suc (length links) = each_length (read_extent image) (extents_from (end_of row) next links) rest behind ∙ extents_length (end_of row) next links in
      let last_full : 240 ≤ pages_in (last_read (first ∷ rest)) = omega (arith, ap (λ (l : List (List Meaning)). pages_in (last_read l)) whole, last, full) in
      let rest_full = behind_first first rest (length links) many all_full last_full in
      let long : length first ≡ between link.first next.first = extent_length image (extent_to next.first link) first is in
      let own = All-head (IsLinkOf blocks) link (next ∷ links) keeps.each_link in
      let own_next = All-head (IsLinkOf blocks) next links (All-tail (IsLinkOf blocks) link (next ∷ links) keeps.each_link) in
      let within = extent_within blocks image keeps.pages (extent_to next.first link) first own.block is in
      let past = not-true (is_by next.first row.first)
      (two (nat_lt 0 row.count && is_by link.first row.first) (not (is_by next.first row.first)) are.begins) in
      let dead = few_dead row.first link.first next.first (length first) own.first own_next.first keeps.first
      (first_by row link (next ∷ links) are.begins) past (sym long) (omega (arith, within, few_records first)) in
      let live : drop (between link.first row.first) (first ++ joined rest) ≡ records =
      ap (λ (l : List (List Meaning)). drop (between link.first row.first) (joined l)) whole ∙ are.live in
      let pages = live_pages (between link.first row.first) first (joined rest) (omega (arith, dead)) in
      let fits = leb-true (pages_in records) row.size are.fits in
      omega (arith, rest_full, pages, ap pages_in live, fits, many)
    where
      behind_first : (first : List Meaning) (rest : List (List Meaning)) (n : ℕ) → length rest ≡ suc n → are_filled 240 (first ∷ rest) ≡ true
          → 240 ≤ pages_in (last_read (first ∷ rest)) → 240 * length rest ≤ pages_in (joined rest)
      behind_first first [] n many filled last = omega arith
      behind_first first (second ∷ rest) n many filled last =
          full_pages (second ∷ rest) (two (nat_le 240 (pages_in first)) (are_filled 240 (second ∷ rest)) filled) last

      live_pages : (dead : ℕ) (first rest : List Meaning) → dead ≤ length first → pages_in rest ≤ pages_in (drop dead (first ++ rest))
      live_pages dead first rest few =
          let none : dead - length first ≡ 0 = omega (arith, few) in
          omega (arith, ap pages_in (drop_both dead first rest ∙ ap (λ (n : ℕ). drop dead first ++ drop n rest) none), pages_both (drop dead first) rest)
