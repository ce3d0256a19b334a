-- The index of a store whose front goes, and that has one record more.
use Rattle.std.proofs.Common.{◌≡◌, ℕ, zero, suc, ◌+◌, ◌-◌, ◌%◌, ◌≤◌, nat_le, true, List, [], ◌∷◌, ◌++◌, length, drop, Some, refl, sym, ◌∙◌, ap, arith, eqb-true}
use Rattle.std.proofs.lemmas.Bool.{le-leb}
use Rattle.std.proofs.lemmas.List.{drop-append-le, drop-drop, drop_all, length-map}
use Rattle.space_packet.specs.Charge.{charge_of}
use Rattle.record_view.specs.Records.{Meaning, record_at}
use Rattle.record_view.specs.declared.link.Link.{Link}
use Rattle.store_directory.specs.Directory.{trim_front, trimmed}
use Rattle.store_directory.specs.Rows.{between}
use Rattle.store_directory.specs.declared.row.Row.{Row}
use Rattle.time_index.specs.TimeIndex.{TimeIndex, with_entry, without_first}
use Rattle.time_index.specs.declared.entry.Entry.{Entry}
use Rattle.chain_log.specs.Pages.{block_octets}
use Rattle.store_load.specs.Extents.{end_of, extents_to, last_of, last_read, pages_in, with_record}
use Rattle.store_load.specs.Keeping.{Keeps}
use Rattle.store_load.specs.Kept.{begins_well, dead_by}
use Rattle.store_load.specs.Loaded.{index_of, index_with, placed_all, seen, shown}
use Rattle.store_load.specs.Loading.{entry_at}
use Rattle.store_load.specs.Moving.{GoesOn, IsNext, used_by}
use Rattle.store_load.specs.declared.rule.Rule.{Rule}
use Rattle.store_load.proofs.Counting.{counts_records, kept_parts, reads_given}
use Rattle.store_load.proofs.Going.{none_are, used_is}
use Rattle.store_load.proofs.IndexMade.{entries_seen, index_is, index_made}
use Rattle.store_load.proofs.InRange.{all_many}
use Rattle.store_load.proofs.Moved.{dead_within, ended_same, far_is, kept_links, left_are, left_read, more_are, old, own, read_links, trim}
use Rattle.store_load.proofs.PlacedFronts.{live_entries, placed_trimmed}
use Rattle.store_load.proofs.Places.{placed_more}

-- as many entries as the row counts records
pub entries_count : (rule : Rule) (blocks : ℕ) (image : ℕ → List ℕ) (now : ℕ) (row : Row) (links : List Link) (records : List Meaning) (index : TimeIndex)
    → Keeps rule blocks image now row links records → index_of rule image now row links ≡ Some index → length index.entries ≡ row.count
entries_count rule blocks image now row links records index keeps is =
    let same = entries_seen rule image now row links records index keeps.kept is in
    sym (length-map index.entries seen) ∙ ap length same ∙ length-map records shown ∙ counts_records rule blocks image now row links records keeps

module _ (rule : Rule) (blocks : ℕ) (image : ℕ → List ℕ) (now later : ℕ) (row : Row) (links : List Link)
    (records : List Meaning) (keeps : Keeps rule blocks image now row links records) (le : now ≤ later)
    (gone : ℕ) (few : gone ≤ row.count) (next : Row) (first_is : next.first ≡ (row.first + gone) % 4294967296)
    (index : TimeIndex) (is : index_of rule image now row links ≡ Some index) where
  entries_are : drop (dead_by row.first links) (placed_all (extents_to (end_of row) links) (old rule blocks image now later row links records keeps le gone few next first_is).reads) ≡ index.entries
  entries_are = ap (λ (x : TimeIndex). x.entries) (index_is rule image now row links records index keeps.kept is)

  numbered : next.first ≡ (index.first + gone) % 4294967296
  numbered = first_is ∙ ap (λ (x : TimeIndex). (x.first + gone) % 4294967296) (index_is rule image now row links records index keeps.kept is)

  -- the entries without those that go
  pub behind_front : (entries : List Entry) → entries ≡ drop gone index.entries
      → index_with next entries ≡ record (without_first index gone) { size = next.size }
  behind_front entries same = λ i. record { first = numbered i; entries = same i; size = next.size }

  -- and with one more
  pub behind_more : (entries : List Entry) (entry : Entry) → entries ≡ drop gone index.entries ++ entry ∷ []
      → index_with next entries ≡ record (with_entry (without_first index gone) entry) { size = next.size }
  behind_more entries entry same = λ i. record { first = numbered i; entries = same i; size = next.size }

  -- where it has a block
  module _ (link : Link) (rest : List Link) (same : links ≡ link ∷ rest) where
    abbrev reads : List (List Meaning)
    reads = (old rule blocks image now later row links records keeps le gone few next first_is).reads

    abbrev left : List (List Meaning)
    left = (trim rule blocks image now later row links records keeps le gone few next first_is link rest same).left

    abbrev kept : List Link
    kept = trim_front next.first link rest

    left_entries : live_entries (end_of row) next.first kept left ≡ drop gone index.entries
    left_entries =
        placed_trimmed blocks image keeps.pages (end_of row) next.first (omega (arith, first_is)) link rest reads left
        (own rule blocks image now later row links records keeps le gone few next first_is link rest same)
        (read_links rule blocks image now later row links records keeps le gone few next first_is link rest same)
        (trim rule blocks image now later row links records keeps le gone few next first_is link rest same).read
        ∙ ap (λ (l : List Link). drop (between link.first next.first) (placed_all (extents_to (end_of row) l) reads)) (sym same)
        ∙ ap (λ (n : ℕ). drop n (placed_all (extents_to (end_of row) links) reads))
        (far_is rule blocks image now later row links records keeps le gone few next first_is link rest same)
        ∙ sym (drop-drop gone (dead_by row.first links) (placed_all (extents_to (end_of row) links) reads))
        ∙ ap (drop gone) entries_are

    pub some_indexed : (n : ℕ) → next.count ≡ suc n → next.count ≡ row.count - gone → nat_le (pages_in (drop gone records)) next.size ≡ true
        → index_of rule image later next (trimmed next.first next.count links) ≡ Some (record (without_first index gone) { size = next.size })
    some_indexed n some count_is fits =
        ap (index_of rule image later next) (kept_links rule blocks image now later row links records keeps le gone few next first_is link rest same n some)
        ∙ index_made rule image later next kept (drop gone records) left
        (left_are rule blocks image now later row links records keeps le gone few next first_is link rest same n some count_is fits)
        ∙ ap Some (behind_front (live_entries (end_of next) next.first kept left)
        (ap (λ (n : ℕ). live_entries n next.first kept left)
        (ended_same rule blocks image now later row links records keeps le gone few next first_is link rest same count_is)
        ∙ left_entries))

    -- one record more is spelled behind the last one
    module _ (meaning : Meaning)
        (spelled : record_at (block_octets image (last_of link rest).block) (end_of row) (pages_in (last_read reads)) ≡ Some meaning)
        (low : now ≤ meaning.stamp) (high : meaning.stamp ≤ later) (largest : length meaning.packet ≤ rule.largest)
        (count_is : next.count ≡ row.count - gone + 1) (fits : pages_in (drop gone records) + charge_of (length meaning.packet) ≤ next.size) where
      abbrev entry : Entry
      entry = entry_at (last_of link rest).block (pages_in (last_read reads)) meaning

      all_placed : placed_all (extents_to (end_of next) kept) (with_record left meaning) ≡ placed_all (extents_to (end_of row) kept) left ++ entry ∷ []
      all_placed =
          let trims = trim rule blocks image now later row links records keeps le gone few next first_is link rest same in
          let read = left_read rule blocks image now later row links records keeps le gone few next first_is link rest same meaning spelled low high largest count_is fits in
          let given = reads_given blocks image keeps.pages (end_of row) trims.link trims.links left trims.own read in
          ap (λ (l : List Link). placed_all (extents_to (end_of next) l) (with_record left meaning)) trims.some
          ∙ placed_more (end_of row) (end_of next) trims.link trims.links left meaning given
          ∙ ap (λ (l : List Link). placed_all (extents_to (end_of row) l) left ++ entry_at (last_of trims.link trims.links).block (pages_in (last_read left)) meaning ∷ []) (sym trims.some)
          ∙ ap (λ (l : Link). placed_all (extents_to (end_of row) kept) left ++ entry_at l.block (pages_in (last_read left)) meaning ∷ []) trims.last_is
          ∙ ap (λ (l : List Meaning). placed_all (extents_to (end_of row) kept) left ++ entry_at (last_of link rest).block (pages_in l) meaning ∷ []) trims.last_same

      more_entries : live_entries (end_of next) next.first kept (with_record left meaning) ≡ drop gone index.entries ++ entry ∷ []
      more_entries =
          let trims = trim rule blocks image now later row links records keeps le gone few next first_is link rest same in
          let read = left_read rule blocks image now later row links records keeps le gone few next first_is link rest same meaning spelled low high largest count_is fits in
          let given = reads_given blocks image keeps.pages (end_of row) trims.link trims.links left trims.own read in
          let long = ap (λ (l : List Link). length (placed_all (extents_to (end_of row) l) left)) trims.some ∙ all_many blocks (end_of row) trims.link trims.links left given in
          let within = dead_within rule blocks image now later row links records keeps le gone few next first_is link rest same meaning spelled low high largest count_is fits in
          ap (drop (dead_by next.first kept)) all_placed
          ∙ drop-append-le (dead_by next.first kept) (placed_all (extents_to (end_of row) kept) left) (entry ∷ []) (omega (arith, long, within))
          ∙ ap (λ (l : List Entry). l ++ entry ∷ []) left_entries

      pub more_indexed : index_of rule image later next (trimmed next.first next.count links)
          ≡ Some (record (with_entry (without_first index gone) entry) { size = next.size })
      more_indexed =
          ap (index_of rule image later next)
          (kept_links rule blocks image now later row links records keeps le gone few next first_is link rest same (row.count - gone) (omega (arith, count_is)))
          ∙ index_made rule image later next kept (drop gone records ++ meaning ∷ []) (with_record left meaning)
          (more_are rule blocks image now later row links records keeps le gone few next first_is link rest same meaning spelled low high largest count_is fits)
          ∙ ap Some (behind_more (live_entries (end_of next) next.first kept (with_record left meaning)) entry more_entries)

-- a row without records has an empty index
pub front_indexed : (rule : Rule) (blocks : ℕ) (image : ℕ → List ℕ) (now later : ℕ) (row : Row)
    (links : List Link) (records : List Meaning) (index : TimeIndex) (gone : ℕ) (next : Row)
    → Keeps rule blocks image now row links records → index_of rule image now row links ≡ Some index
    → now ≤ later → GoesOn gone 0 row next → pages_in (drop gone records) ≤ next.size
    → index_of rule image later next (trimmed next.first next.count links) ≡ Some (record (without_first index gone) { size = next.size })
front_indexed rule blocks image now later row links records index gone next keeps is le goes fits =
    by_count next.count refl links refl
  where
    by_count : (count : ℕ) → next.count ≡ count → (others : List Link) → links ≡ others
        → index_of rule image later next (trimmed next.first next.count links) ≡ Some (record (without_first index gone) { size = next.size })
    by_count zero none others same =
        let many : length index.entries ≡ row.count = entries_count rule blocks image now row links records index keeps is in
        ap (λ (n : ℕ). index_of rule image later next (trimmed next.first n links)) none
        ∙ index_made rule image later next [] [] [] (none_are rule image later next none)
        ∙ ap Some (behind_front rule blocks image now later row links records keeps le gone goes.few next goes.first index is []
        (sym (drop_all gone index.entries (omega (arith, many, none, goes.count, goes.few)))))
    by_count (suc n) some [] same =
        let none : row.count ≡ 0 = eqb-true row.count 0 (sym (ap (begins_well row) same) ∙ (kept_parts rule image now row links records keeps.kept).begins) in
        absurd (omega (arith, none, some, goes.count, goes.few))
    by_count (suc n) some (link ∷ rest) same =
        some_indexed rule blocks image now later row links records keeps le gone goes.few next goes.first index is link rest same n some
        (omega (arith, goes.count))
        (le-leb (pages_in (drop gone records)) next.size fits)

pub record_indexed : (rule : Rule) (blocks : ℕ) (image : ℕ → List ℕ) (now later : ℕ) (row : Row)
    (link : Link) (links : List Link) (records : List Meaning) (index : TimeIndex) (gone : ℕ) (next : Row) (meaning : Meaning)
    → Keeps rule blocks image now row (link ∷ links) records → index_of rule image now row (link ∷ links) ≡ Some index
    → now ≤ later → GoesOn gone 1 row next
    → record_at (block_octets image (last_of link links).block) (end_of row) (used_by image row link links) ≡ Some meaning
    → IsNext rule now later meaning
    → pages_in (drop gone records) + charge_of (length meaning.packet) ≤ next.size
    → index_of rule image later next (trimmed next.first next.count (link ∷ links))
    ≡ Some (record (with_entry (without_first index gone) (entry_at (last_of link links).block (used_by image row link links) meaning)) { size = next.size })
record_indexed rule blocks image now later row link links records index gone next meaning keeps is le goes spelled follows fits =
    let used = used_is rule blocks image now row link links records keeps in
    more_indexed rule blocks image now later row (link ∷ links) records keeps le gone goes.few next goes.first index is link links refl meaning
    (ap (record_at (block_octets image (last_of link links).block) (end_of row)) (sym used) ∙ spelled)
    follows.since follows.by follows.short goes.count fits
    ∙ ap (λ (n : ℕ). Some (record (with_entry (without_first index gone) (entry_at (last_of link links).block n meaning)) { size = next.size })) (sym used)
