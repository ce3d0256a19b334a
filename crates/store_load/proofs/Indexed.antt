-- The index that is loaded is that of the store.
use Rattle.std.proofs.Common.{◌≡◌, ℕ, ◌+◌, ◌≤◌, ◌&&◌, nat_le, true, false, List, [], ◌∷◌, ◌++◌, length, drop, map, Option, Some, None, refl, sym, ◌∙◌, ap, subst, arith}
use Rattle.std.specs.Prelude.{⊤}
use Rattle.std.proofs.lemmas.Bool.{le-leb, leb-true}
use Rattle.std.proofs.lemmas.List.{drop-map, map-append}
use Rattle.std.proofs.lemmas.Option.{none-some, same_Some}
use Rattle.record_view.specs.Records.{Meaning}
use Rattle.record_view.specs.declared.link.Link.{Link}
use Rattle.store_directory.specs.Options.{◌>>=◌}
use Rattle.store_directory.specs.declared.row.Row.{Row}
use Rattle.store_directory.proofs.Steps.{some_then}
use Rattle.time_index.specs.TimeIndex.{TimeIndex, pages_of}
use Rattle.time_index.specs.declared.entry.Entry.{Entry}
use Rattle.store_load.specs.Each.{each}
use Rattle.store_load.specs.Extents.{Extent, extents_of, joined, pages_in, read_extent}
use Rattle.store_load.specs.Held.{AreTaken}
use Rattle.store_load.specs.Kept.{are_filled, are_short, begins_well, dead_by, kept_by, kept_of, live_of, may_keep, rise_to}
use Rattle.store_load.specs.Loaded.{index_by, index_of, index_with, limits_of, placed, placed_all, seen, shown, start_of}
use Rattle.store_load.specs.Loading.{Progress, load_extents}
use Rattle.store_load.specs.declared.rule.Rule.{Rule}
use Rattle.store_load.proofs.Counting.{kept_parts}
use Rattle.store_load.proofs.Eachs.{both, each_cons, each_length, given_then}
use Rattle.store_load.proofs.PlacedLasts.{placed_seen}
use Rattle.store_load.proofs.Room.{room_all}
use Rattle.store_load.proofs.Takings.{loads_taken, pages_match, placed_lengths, takes_all}

pub all_lengths : (extents : List Extent) (reads : List (List Meaning)) → length reads ≡ length extents
    → map (λ (e : Entry). e.length) (placed_all extents reads) ≡ map (λ (m : Meaning). length m.packet) (joined reads)
all_lengths [] [] many = refl
all_lengths [] (records ∷ reads) many = absurd (omega (arith, many))
all_lengths (extent ∷ extents) [] many = absurd (omega (arith, many))
all_lengths (extent ∷ extents) (records ∷ reads) many =
    map-append (λ (e : Entry). e.length) (placed extent.block 0 records) (placed_all extents reads)
    ∙ (λ i. placed_lengths extent.block 0 records i ++ all_lengths extents reads (omega (arith, many)) i)
    ∙ sym (map-append (λ (m : Meaning). length m.packet) records (joined reads))

all_seen : (image : ℕ → List ℕ) (extents : List Extent) (reads : List (List Meaning)) → each (read_extent image) extents ≡ Some reads
    → map seen (placed_all extents reads) ≡ map shown (joined reads)
all_seen image [] reads are = ap (λ (l : List (List Meaning)). map shown (joined l)) (same_Some [] reads are)
all_seen image (extent ∷ extents) reads are =
    let (records, behind, read, rest, whole) = each_cons (read_extent image) extent extents reads are in
    ap (λ (l : List (List Meaning)). map seen (placed_all (extent ∷ extents) l)) (sym whole)
    ∙ map-append seen (placed extent.block 0 records) (placed_all extents behind)
    ∙ (λ i. placed_seen extent.block 0 records i ++ all_seen image extents behind rest i)
    ∙ sym (map-append shown records (joined behind))
    ∙ ap (λ (l : List (List Meaning)). map shown (joined l)) whole

module _ (rule : Rule) (image : ℕ → List ℕ) (now : ℕ) (row : Row) (links : List Link) where
  kept_made : (reads : List (List Meaning)) → begins_well row links ≡ true → each (read_extent image) (extents_of row links) ≡ Some reads
      → may_keep rule now row.size reads (live_of row links reads) ≡ true → kept_of rule image now row links ≡ Some (live_of row links reads)
  unfolding kept_of
  kept_made reads begun read allowed = rw begun (rw read (rw allowed refl))

  index_made : (reads : List (List Meaning)) → begins_well row links ≡ true → each (read_extent image) (extents_of row links) ≡ Some reads
      → may_keep rule now row.size reads (live_of row links reads) ≡ true
      → index_of rule image now row links ≡ Some (index_with row (drop (dead_by row.first links) (placed_all (extents_of row links) reads)))
  unfolding index_of
  index_made reads begun read allowed = rw begun (rw read (rw allowed refl))

  -- there is an index exactly where records are kept, and it lists them
  pub index_kept : (index : TimeIndex) → index_of rule image now row links ≡ Some index
      → (records : List Meaning) × (kept_of rule image now row links ≡ Some records) × (map seen index.entries ≡ map shown records)
  unfolding index_of
  index_kept index is =
      let begun = given_then (begins_well row links)
      (λ (_ : ⊤). each (read_extent image) (extents_of row links) >>= λ (reads : List (List Meaning)). index_by rule now row links reads) index is in
      let (reads, read, made) = some_then (each (read_extent image) (extents_of row links)) (index_by rule now row links) index begun.1 in
      let live = live_of row links reads in
      let entries = drop (dead_by row.first links) (placed_all (extents_of row links) reads) in
      let parts = given_then (may_keep rule now row.size reads live) (λ (_ : ⊤). Some (index_with row entries)) index made in
      let same : index_with row entries ≡ index = same_Some (index_with row entries) index parts.1 in (
        live,
        kept_made reads begun.0 read parts.0,
        ap (λ (x : TimeIndex). map seen x.entries) (sym same)
            ∙ sym (drop-map seen (dead_by row.first links) (placed_all (extents_of row links) reads))
            ∙ ap (drop (dead_by row.first links)) (all_seen image (extents_of row links) reads read)
            ∙ drop-map shown (dead_by row.first links) (joined reads),
      )

  pub kept_index : (records : List Meaning) → kept_of rule image now row links ≡ Some records
      → (index : TimeIndex) × (index_of rule image now row links ≡ Some index)
  unfolding kept_of
  kept_index records is =
      let begun = given_then (begins_well row links)
      (λ (_ : ⊤). each (read_extent image) (extents_of row links) >>= λ (reads : List (List Meaning)). kept_by rule now row links reads) records is in
      let (reads, read, made) = some_then (each (read_extent image) (extents_of row links)) (kept_by rule now row links) records begun.1 in
      let live = live_of row links reads in
      let parts = given_then (may_keep rule now row.size reads live) (λ (_ : ⊤). Some live) records made in (
        index_with row (drop (dead_by row.first links) (placed_all (extents_of row links) reads)),
        index_made reads begun.0 read parts.0,
      )

  pub no_index : index_of rule image now row links ≡ None → kept_of rule image now row links ≡ None
  no_index none = pick (kept_of rule image now row links) refl
    where
      pick : (found : Option (List Meaning)) → kept_of rule image now row links ≡ found → found ≡ None
      pick None is = refl
      pick (Some records) is =
          let (index, made) = kept_index records is in absurd (none-some index (sym none ∙ made))

  -- it does not begin well
  pub not_begun : begins_well row links ≡ false → index_of rule image now row links ≡ None
  unfolding index_of
  not_begun h = rw h refl

  -- what was taken is the index
  pub taken_index : (reads : List (List Meaning)) (new : Progress) → length reads ≡ length (extents_of row links)
      → AreTaken (limits_of rule now row) rule.least (extents_of row links) reads (start_of row links) new
      → index_by rule now row links reads ≡ Some new.index
  taken_index reads new many are =
      let (filled, takes) = takes_all (limits_of rule now row) rule.least (extents_of row links) reads (start_of row links) new are in
      let live = live_of row links reads in
      let cost : pages_of new.index.entries ≡ pages_in live =
      ap (λ (x : TimeIndex). pages_of x.entries) takes.index_is
      ∙ pages_match (dead_by row.first links) (placed_all (extents_of row links) reads) (joined reads) (all_lengths (extents_of row links) reads many) in
      let room = takes.fits (omega arith) in
      let allowed : may_keep rule now row.size reads live ≡ true =
      both (are_filled rule.least reads && are_short rule.largest (joined reads) && rise_to now 0 live) (nat_le (pages_in live) row.size)
      (both (are_filled rule.least reads && are_short rule.largest (joined reads)) (rise_to now 0 live)
      (both (are_filled rule.least reads) (are_short rule.largest (joined reads)) filled takes.short) takes.rise)
      (le-leb (pages_in live) row.size (omega (arith, cost, room))) in
      rw allowed (ap Some (sym takes.index_is))

  -- what was loaded is the index
  pub loaded_index : (new : Progress) → begins_well row links ≡ true
      → load_extents (limits_of rule now row) rule.least image (extents_of row links) (start_of row links) ≡ Some new
      → index_of rule image now row links ≡ Some new.index
  unfolding index_of
  loaded_index new begun is =
      let (reads, read, are) = loads_taken (limits_of rule now row) rule.least image (extents_of row links) (start_of row links) new is in
      rw begun (rw read (taken_index reads new (each_length (read_extent image) (extents_of row links) reads read) are))

  -- where nothing was loaded there is none
  pub unloaded_index : begins_well row links ≡ true
      → load_extents (limits_of rule now row) rule.least image (extents_of row links) (start_of row links) ≡ None
      → index_of rule image now row links ≡ None
  unloaded_index begun none = pick (index_of rule image now row links) refl
    where
      pick : (found : Option TimeIndex) → index_of rule image now row links ≡ found → found ≡ None
      pick None is = refl
      pick (Some index) is =
          let (records, kept, same) = index_kept index is in
          let are = kept_parts rule image now row links records kept in
          let (new, some) = room_all (limits_of rule now row) rule.least image (extents_of row links) are.reads (start_of row links) are.read are.filled
          (record {
            short = are.short;
            rise = subst (λ (l : List Meaning). rise_to now 0 l ≡ true) (sym are.live) are.rise;
            fits =
                let fits = leb-true (pages_in records) row.size are.fits in
                subst (λ (l : List Meaning). pages_of ([]) + pages_in l ≤ row.size) (sym are.live) (omega (arith, fits));
          }) in
          absurd (none-some new (sym none ∙ some))
