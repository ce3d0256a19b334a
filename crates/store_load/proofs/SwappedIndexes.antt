-- The index of a store whose last block is another one.
use Rattle.std.proofs.Common.{◌≡◌, ℕ, ◌+◌, ◌-◌, ◌%◌, ◌<◌, ◌≤◌, ◌&&◌, nat_lt, true, false, not, List, [], ◌∷◌, ◌++◌, All, length, map, drop, take, Some, refl, sym, ◌∙◌, ap, arith, append-nil, length-append, length-drop}
use Rattle.std.proofs.Math.Seq.{drop-append_seam, take-append_seam}
use Rattle.std.proofs.lemmas.Bool.{not-true}
use Rattle.std.proofs.lemmas.List.{drop-append-le}
use Rattle.std.proofs.lemmas.List.Elements.{All-head, All-tail}
use Rattle.std.proofs.lemmas.Option.{same_Some}
use Rattle.record_view.specs.Records.{Meaning}
use Rattle.record_view.specs.declared.link.Link.{Link}
use Rattle.store_directory.specs.Directory.{swap_last}
use Rattle.store_directory.specs.Rows.{between, is_by}
use Rattle.store_directory.specs.declared.row.Row.{Row}
use Rattle.store_directory.proofs.Steps.{some_then}
use Rattle.time_index.specs.TimeIndex.{TimeIndex, pages_of}
use Rattle.time_index.specs.declared.entry.Entry.{Entry}
use Rattle.store_load.specs.Extents.{AreGiven, end_of, extent_to, extents_from, extents_to, last_of, last_read, read_extent}
use Rattle.store_load.specs.Frame.{pages_read}
use Rattle.store_load.specs.Keeping.{IsLinkOf, Keeps}
use Rattle.store_load.specs.Kept.{begins_well, dead_by}
use Rattle.store_load.specs.Loaded.{index_of, placed, placed_all, seen, shown, used_in}
use Rattle.store_load.specs.Moving.{last_extent}
use Rattle.store_load.specs.Renewing.{last_position, renewed, renewed_from}
use Rattle.store_load.specs.declared.rule.Rule.{Rule}
use Rattle.store_load.proofs.Blocks.{alone_are, behind_are}
use Rattle.store_load.proofs.Counting.{KeptAre, counted, first_by, kept_parts, reads_given}
use Rattle.store_load.proofs.Eachs.{two}
use Rattle.store_load.proofs.Full.{few_dead}
use Rattle.store_load.proofs.IndexMade.{entries_seen, index_is, index_made}
use Rattle.store_load.proofs.InRange.{all_many, placed_many}
use Rattle.store_load.proofs.LastLinks.{none_between}
use Rattle.store_load.proofs.More.{last_spelled}
use Rattle.store_load.proofs.PlacedFronts.{live_entries}
use Rattle.store_load.proofs.PlacedLasts.{placed_before, placed_last, placed_seen, placed_swapped, renewed_placed, seen_cost, swapped_ends}
use Rattle.store_load.proofs.Records.{extent_length, few_records, given_length, given_within}

-- another only block
module _ (rule : Rule) (blocks : ℕ) (image : ℕ → List ℕ) (now : ℕ) (row : Row) (link new : Link)
    (records : List Meaning) (index : TimeIndex) (keeps : Keeps rule blocks image now row (link ∷ []) records)
    (is : index_of rule image now row (link ∷ []) ≡ Some index) where
  lists : map seen index.entries ≡ map shown records
  lists = entries_seen rule image now row (link ∷ []) records index keeps.kept is

  pub alone_indexed : new.first ≡ row.first → read_extent image (extent_to (end_of row) new) ≡ Some records
      → index_of rule image now row (new ∷ []) ≡ Some (renewed_from 0 new.block index)
  alone_indexed same spelled =
      let whole = index_is rule image now row (link ∷ []) records index keeps.kept is in
      let entries : live_entries (end_of row) row.first (new ∷ []) (records ∷ []) ≡ renewed new.block 0 index.entries =
      ap (λ (n : ℕ). drop n (placed new.block 0 records ++ [])) (none_between new.first row.first same keeps.first)
      ∙ append-nil (placed new.block 0 records)
      ∙ sym (renewed_placed new.block 0 index.entries records lists) in
      index_made rule image now row (new ∷ []) records (records ∷ [])
      (alone_are rule blocks image now row link [] records keeps new same spelled)
      ∙ (λ i. Some (record { first = (whole i).first; entries = entries i; size = (whole i).size }))

  pub alone_used : read_extent image (extent_to (end_of row) new) ≡ Some records → used_in image row (new ∷ []) ≡ pages_of index.entries
  alone_used spelled = ap pages_read spelled ∙ sym (seen_cost index.entries records lists)

-- the first block has a record that is not dead
first_lives : (row : Row) (link next : Link) (links : List Link) → begins_well row (link ∷ next ∷ links) ≡ true → is_by next.first row.first ≡ false
first_lives row link next links h =
    not-true (is_by next.first row.first) (two (nat_lt 0 row.count && is_by link.first row.first) (not (is_by next.first row.first)) h)

-- the position of the first record of the last block
position : (first count end last dead front many : ℕ) → first < 4294967296 → last < 4294967296 → count ≤ 100000
    → end ≡ (first + count) % 4294967296 → between last end ≡ many → front + many ≡ dead + count → dead ≤ front
    → between first last ≡ front - dead
position first count end last dead front many lf ll few ends is sum within = omega (arith, lf, ll, few, ends, is, sum, within)

module _ (rule : Rule) (blocks : ℕ) (image : ℕ → List ℕ) (now : ℕ) (row : Row) (link next : Link) (links : List Link)
    (records : List Meaning) (index : TimeIndex) (keeps : Keeps rule blocks image now row (link ∷ next ∷ links) records)
    (is : index_of rule image now row (link ∷ next ∷ links) ≡ Some index) where
  abbrev old : KeptAre rule image now row (link ∷ next ∷ links) records
  old = kept_parts rule image now row (link ∷ next ∷ links) records keeps.kept

  given : AreGiven (extents_from (end_of row) link (next ∷ links)) old.reads
  given = reads_given blocks image keeps.pages (end_of row) link (next ∷ links) old.reads keeps.each_link old.read

  abbrev front : List Entry
  front = placed_before link (next ∷ links) old.reads

  abbrev dead : ℕ
  dead = between link.first row.first

  abbrev last : Link
  last = last_of next links

  dead_few : dead ≤ length front
  dead_few = by_reads old.reads given
    where
      by_reads : (reads : List (List Meaning)) → AreGiven (extents_from (end_of row) link (next ∷ links)) reads → dead ≤ length (placed_before link (next ∷ links) reads)
      by_reads [] given = absurd given
      by_reads (x ∷ reads) given =
          let long : length x ≡ between link.first next.first = given_length (extent_to next.first link) x given.0 in
          let within = given_within (extent_to next.first link) x given.0 in
          let here = All-head (IsLinkOf blocks) link (next ∷ links) keeps.each_link in
          let there = All-head (IsLinkOf blocks) next links (All-tail (IsLinkOf blocks) link (next ∷ links) keeps.each_link) in
          let less : dead < length x =
          few_dead row.first link.first next.first (length x) here.first there.first keeps.first (first_by row link (next ∷ links) old.begins)
          (first_lives row link next links old.begins) (sym long) (omega (arith, within, few_records x)) in
          omega (arith, less, placed_many link.block 0 x, length-append (placed link.block 0 x) (placed_before next links reads))

  -- the entries before the last block, and those in it
  entries_parted : index.entries ≡ drop dead front ++ placed last.block 0 (last_read old.reads)
  entries_parted =
      sym (ap (λ (x : TimeIndex). x.entries) (index_is rule image now row (link ∷ next ∷ links) records index keeps.kept is))
      ∙ ap (drop dead) (placed_last (end_of row) link (next ∷ links) old.reads given)
      ∙ drop-append-le dead front (placed last.block 0 (last_read old.reads)) dead_few

  last_own : (a : Link) (others : List Link) → All (IsLinkOf blocks) (a ∷ others) → IsLinkOf blocks (last_of a others)
  last_own a [] own = All-head (IsLinkOf blocks) a [] own
  last_own a (b ∷ others) own = last_own b others (All-tail (IsLinkOf blocks) a (b ∷ others) own)

  position_is : last_position row (link ∷ next ∷ links) ≡ length (drop dead front)
  position_is =
      let long = extent_length image (extent_to (end_of row) last) (last_read old.reads) (last_spelled image (end_of row) link (next ∷ links) old.reads old.read) in
      let all = all_many blocks (end_of row) link (next ∷ links) old.reads given in
      let parted = ap length (placed_last (end_of row) link (next ∷ links) old.reads given) in
      let sum = length-append front (placed last.block 0 (last_read old.reads)) in
      let total = counted rule blocks image now row (link ∷ next ∷ links) records keeps in
      let own = last_own link (next ∷ links) keeps.each_link in
      position row.first row.count (end_of row) last.first dead (length front) (length (last_read old.reads)) keeps.first own.first keeps.count refl
      (sym long) (omega (arith, all, parted, sum, total, placed_many last.block 0 (last_read old.reads))) dead_few
      ∙ sym (length-drop dead front)

  before_is : take (last_position row (link ∷ next ∷ links)) index.entries ≡ drop dead front
  before_is =
      ap (λ (n : ℕ). take n index.entries) position_is
      ∙ ap (take (length (drop dead front))) entries_parted
      ∙ take-append_seam (drop dead front) (placed last.block 0 (last_read old.reads))

  pub behind_is : drop (last_position row (link ∷ next ∷ links)) index.entries ≡ placed last.block 0 (last_read old.reads)
  behind_is =
      ap (λ (n : ℕ). drop n index.entries) position_is
      ∙ ap (drop (length (drop dead front))) entries_parted
      ∙ drop-append_seam (drop dead front) (placed last.block 0 (last_read old.reads))

  lists_last : map seen (drop (last_position row (link ∷ next ∷ links)) index.entries) ≡ map shown (last_read old.reads)
  lists_last = ap (map seen) behind_is ∙ placed_seen last.block 0 (last_read old.reads)

  module _ (new : Link) (swapped : List Link) (made : swap_last new (link ∷ next ∷ links) ≡ Some swapped)
      (same_first : new.first ≡ last.first)
      (same : read_extent image (extent_to (end_of row) new) ≡ read_extent image (last_extent row link (next ∷ links))) where
    spelled : read_extent image (extent_to (end_of row) new) ≡ Some (last_read old.reads)
    spelled = same ∙ last_spelled image (end_of row) link (next ∷ links) old.reads old.read

    begins_same : (tail : List Link) → swapped ≡ link ∷ tail → live_entries (end_of row) row.first swapped old.reads
        ≡ drop dead (placed_all (extents_to (end_of row) swapped) old.reads)
    begins_same tail shape = ap (λ (l : List Link). drop (dead_by row.first l) (placed_all (extents_to (end_of row) swapped) old.reads)) shape

    pub swapped_indexed : index_of rule image now row swapped
        ≡ Some (renewed_from (last_position row (link ∷ next ∷ links)) new.block index)
    swapped_indexed =
        let whole = index_is rule image now row (link ∷ next ∷ links) records index keeps.kept is in
        let k = last_position row (link ∷ next ∷ links) in
        let (deeper, inner, shape) = some_then (swap_last new (next ∷ links)) (λ (l : List Link). Some (link ∷ l)) swapped made in
        let entries : live_entries (end_of row) row.first swapped old.reads ≡ take k index.entries ++ renewed new.block 0 (drop k index.entries) =
        begins_same deeper (sym (same_Some (link ∷ deeper) swapped shape))
        ∙ ap (drop dead) (placed_swapped (end_of row) new link (next ∷ links) swapped old.reads made given)
        ∙ drop-append-le dead front (placed new.block 0 (last_read old.reads)) dead_few
        ∙ (λ i. sym before_is i ++ sym (renewed_placed new.block 0 (drop k index.entries) (last_read old.reads) lists_last) i) in
        index_made rule image now row swapped records old.reads
        (behind_are rule blocks image now row link next links records keeps new swapped made same_first spelled)
        ∙ (λ i. Some (record { first = (whole i).first; entries = entries i; size = (whole i).size }))

  pub swapped_used : (new : Link) (swapped : List Link) → swap_last new (link ∷ next ∷ links) ≡ Some swapped
      → read_extent image (extent_to (end_of row) new) ≡ read_extent image (last_extent row link (next ∷ links))
      → used_in image row swapped ≡ pages_of (drop (last_position row (link ∷ next ∷ links)) index.entries)
  swapped_used new swapped made same =
      let ends = swapped_ends new link (next ∷ links) swapped made in
      ap (used_in image row) ends.are
      ∙ ap (λ (l : Link). pages_read (read_extent image (extent_to (end_of row) l))) ends.last
      ∙ ap pages_read (same ∙ last_spelled image (end_of row) link (next ∷ links) old.reads old.read)
      ∙ sym (seen_cost (drop (last_position row (link ∷ next ∷ links)) index.entries) (last_read old.reads) lists_last)
