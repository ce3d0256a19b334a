-- The index of a store that keeps records.
use Rattle.std.proofs.Common.{◌≡◌, ℕ, nat_le, true, List, map, Some, refl, sym, ◌∙◌, ap, subst}
use Rattle.std.proofs.lemmas.Option.{same_Some}
use Rattle.record_view.specs.Records.{Meaning}
use Rattle.record_view.specs.declared.link.Link.{Link}
use Rattle.store_directory.specs.declared.row.Row.{Row}
use Rattle.time_index.specs.TimeIndex.{TimeIndex}
use Rattle.store_load.specs.Extents.{end_of, pages_in}
use Rattle.store_load.specs.Kept.{kept_of, live_of, rise_to}
use Rattle.store_load.specs.Loaded.{index_of, index_with, seen, shown}
use Rattle.store_load.specs.declared.rule.Rule.{Rule}
use Rattle.store_load.proofs.Counting.{KeptAre, kept_parts}
use Rattle.store_load.proofs.Indexed.{index_kept}
use Rattle.store_load.proofs.PlacedFronts.{live_entries}

module _ (rule : Rule) (image : ℕ → List ℕ) (now : ℕ) (row : Row) (links : List Link) (records : List Meaning) where
  index_at : (are : KeptAre rule image now row links records)
      → index_of rule image now row links ≡ Some (index_with row (live_entries (end_of row) row.first links are.reads))
  unfolding index_of
  index_at are =
      let rise : rise_to now 0 (live_of row links are.reads) ≡ true =
      subst (λ (l : List Meaning). rise_to now 0 l ≡ true) (sym are.live) are.rise in
      let fits : nat_le (pages_in (live_of row links are.reads)) row.size ≡ true =
      subst (λ (l : List Meaning). nat_le (pages_in l) row.size ≡ true) (sym are.live) are.fits in
      rw (are.begins) (rw (are.read) (rw (are.filled, are.short, rise, fits) refl))

  -- by what its blocks spell
  pub index_made : (reads : List (List Meaning)) → (are : KeptAre rule image now row links records) × (are.reads ≡ reads)
      → index_of rule image now row links ≡ Some (index_with row (live_entries (end_of row) row.first links reads))
  index_made reads (are, same) =
      index_at are ∙ ap (λ (l : List (List Meaning)). Some (index_with row (live_entries (end_of row) row.first links l))) same

  pub index_is : (index : TimeIndex) (kept : kept_of rule image now row links ≡ Some records) → index_of rule image now row links ≡ Some index
      → index_with row (live_entries (end_of row) row.first links (kept_parts rule image now row links records kept).reads) ≡ index
  index_is index kept is =
      let are = kept_parts rule image now row links records kept in
      same_Some (index_with row (live_entries (end_of row) row.first links are.reads)) index (sym (index_at are) ∙ is)

  -- it lists the records
  pub entries_seen : (index : TimeIndex) → kept_of rule image now row links ≡ Some records → index_of rule image now row links ≡ Some index
      → map seen index.entries ≡ map shown records
  entries_seen index kept is =
      let (others, others_kept, same) = index_kept rule image now row links index is in
      same ∙ ap (map shown) (same_Some others records (sym others_kept ∙ kept))
