-- The index of a store on the image behind an offer.
use Rattle.std.proofs.Common.{◌≡◌, ℕ, zero, suc, ◌+◌, ◌%◌, ◌<◌, ◌≤◌, ◌==◌, false, List, [], ◌∷◌, ◌++◌, length, drop, Some, refl, sym, ◌∙◌, ap, subst, arith, eqb-true}
use Rattle.std.specs.Prelude.{slice_get}
use Rattle.std.proofs.lemmas.Bool.{leb-true}
use Rattle.std.proofs.lemmas.List.{drop-map}
use Rattle.std.proofs.lemmas.Option.{same_Some}
use Rattle.space_packet.specs.Charge.{charge_of}
use Rattle.chain_log.specs.Pages.{block_octets}
use Rattle.image_table.specs.Table.{store_with, stored_of, table_rule}
use Rattle.image_table.proofs.Frames.{data_tests, table_loads}
use Rattle.image_table.proofs.Stores.{content_stored}
use Rattle.pst_model.specs.Table.{Store, Stored, Table, content_in}
use Rattle.record_view.specs.Records.{Meaning, record_at}
use Rattle.record_view.specs.declared.link.Link.{Link}
use Rattle.store_directory.specs.Changes.{Change, apply}
use Rattle.store_directory.specs.Directory.{Directory, Listed, trimmed}
use Rattle.store_load.specs.Extents.{end_of, last_of, pages_in}
use Rattle.store_load.specs.Keeping.{IsLinkOf, Keeps}
use Rattle.store_load.specs.Kept.{begins_well, kept_of}
use Rattle.store_load.specs.Loaded.{index_of, index_with}
use Rattle.store_load.specs.Moving.{GoesOn, IsNext, used_by}
use Rattle.store_load.proofs.BegunIndexes.{block_indexed, first_indexed}
use Rattle.store_load.proofs.Counting.{kept_parts}
use Rattle.store_load.proofs.IndexMade.{index_is}
use Rattle.store_load.proofs.Moved.{trim_suc}
use Rattle.store_load.proofs.MovedIndexes.{front_indexed, record_indexed}
use Rattle.store_load.proofs.Rows.{row_numbers}
use Rattle.store_load.proofs.StayingIndexes.{index_later}
use Rattle.time_index.specs.TimeIndex.{TimeIndex, with_entry, without_first}
use Rattle.time_index.specs.declared.entry.Entry.{Entry}
use Rattle.put_laws.specs.Indexes.{entry_of, index_behind_put}
use Rattle.put_laws.specs.Puts.{Accepts, Begins, IsFull, Outcome, SpellsBehind, SpellsFirst, Takes, Tells, changes_of_put, listed_behind, row_behind_put, told_row}
use Rattle.put_laws.specs.Walks.{HasGoneOn, HasOffered, clock_of, reports_behind, table_at}
use Rattle.put_laws.proofs.Clocks.{clock_applies, counted_low}
use Rattle.put_laws.proofs.Contents.{few, keeps_is, room}
use Rattle.put_laws.proofs.FewLinks.{few_links}
use Rattle.put_laws.proofs.Replaced.{listed_in}
use Rattle.put_laws.proofs.Spots.{get_other}
use Rattle.put_laws.proofs.Turns.{Turn, spot_listed}

-- the time of the walk

pub walk_now : (blocks : ℕ) (image : ℕ → List ℕ) (d : Directory) (table : Table) (stored : Stored) (at : ℕ) (changes : List Change) (next : Directory)
    → HasOffered blocks image d table stored at changes next → next.now ≡ stored.time
walk_now blocks image d table stored at changes next walk =
    ap (λ (t : Table). t.now) (table_loads blocks image next (table_at stored at table) walk.loads).whole

clock_made : (d : Directory) (table : Table) (stored : Stored) (next : Directory) → apply d (clock_of stored table) ≡ Some next
    → next ≡ record d { now = stored.time; reports = reports_behind stored table }
clock_made d table stored next applied =
    let made : Directory = record d { now = stored.time; reports = reports_behind stored table } in
    sym (same_Some made next (sym (clock_applies d stored.time (reports_behind stored table) (counted_low stored table)) ∙ applied))

pub clock_stores : (d : Directory) (table : Table) (stored : Stored) (next : Directory) → apply d (clock_of stored table) ≡ Some next → next.stores ≡ d.stores
clock_stores d table stored next applied = ap (λ (x : Directory). x.stores) (clock_made d table stored next applied)

pub clock_places : (image : ℕ → List ℕ) (d : Directory) (table : Table) (stored : Stored) (next : Directory) (s : Listed) (index : TimeIndex)
    → apply d (clock_of stored table) ≡ Some next → d.now ≤ stored.time → index_of table_rule image d.now s.row s.links ≡ Some index
    → index_of table_rule image next.now s.row s.links ≡ Some index
clock_places image d table stored next s index applied le is =
    ap (λ (x : Directory). index_of table_rule image x.now s.row s.links) (clock_made d table stored next applied)
    ∙ index_later table_rule image d.now stored.time s.row s.links index le is

-- an index of so many pages as the row says

resized : (index : TimeIndex) (size : ℕ) → index.size ≡ size → record index { size = size } ≡ index
resized index size same = λ i. record index { size = sym same i }

none_gone : (index : TimeIndex) → index.first < 4294967296 → without_first index 0 ≡ index
none_gone index low = let same : (index.first + 0) % 4294967296 ≡ index.first = omega (arith, low) in λ i. record index { first = same i }

-- the room of records is that of their packets
pages_dropped : (s : Listed) (records : List Meaning) (store : Store) (gone : ℕ) → store_with s records ≡ store
    → pages_in (drop gone records) ≡ content_in (drop gone store.packets)
pages_dropped s records store gone whole =
    sym (content_stored (drop gone records))
    ∙ ap content_in (sym (drop-map stored_of gone records) ∙ ap (λ (x : Store). drop gone x.packets) whole)

module _ (blocks : ℕ) (image : ℕ → List ℕ) (d : Directory) (table : Table) (stored : Stored) (at : ℕ) (s : Listed) (store : Store)
    (turn : Turn blocks image d table stored at s store) (now_is : d.now ≡ stored.time)
    (index : TimeIndex) (is : index_of table_rule image d.now s.row s.links ≡ Some index) where
  size_is : index.size ≡ s.size
  size_is =
      let (records, keeps, whole) = keeps_is blocks image d table stored at s store turn in
      sym (ap (λ (x : TimeIndex). x.size) (index_is table_rule image d.now s.row s.links records index keeps.kept is))

  low : index.first < 4294967296
  low =
      let (records, keeps, whole) = keeps_is blocks image d table stored at s store turn in
      let same = ap (λ (x : TimeIndex). x.first) (index_is table_rule image d.now s.row s.links records index keeps.kept is) in
      omega (arith, same, keeps.first)

  -- its reservation is small
  size_few : s.size ≤ 100000
  size_few =
      let there = spot_listed blocks image d table stored at s store turn in
      (row_numbers s.row (listed_in d turn.directory there.front s there.back there.parted).lawful).0

  pub told_places : let new = listed_behind Tells s in index_of table_rule image d.now new.row new.links ≡ Some index
  told_places =
      let (records, keeps, whole) = keeps_is blocks image d table stored at s store turn in
      let goes : GoesOn 0 0 s.row (told_row s.row) =
      record { few = omega arith; first = omega (arith, keeps.first); count = omega arith } in
      let fits = leb-true (pages_in records) s.size (kept_parts table_rule image d.now s.row s.links records keeps.kept).fits in
      front_indexed table_rule blocks image d.now d.now s.row s.links records index 0 (told_row s.row) keeps is (omega arith) goes fits
      ∙ ap (λ (x : TimeIndex). Some (record x { size = s.size })) (none_gone index low)
      ∙ ap Some (resized index s.size size_is)

  module _ (gone : ℕ) (accepts : Accepts store stored gone) where
    abbrev meaning : Meaning
    meaning = record { number = end_of s.row; stamp = stored.time; packet = stored.octets }

    goes_on : GoesOn gone 1 s.row (row_behind_put gone s.row)
    goes_on = record { few = few blocks image d table stored at s store turn gone accepts; first = refl; count = refl }

    follows : IsNext table_rule d.now d.now meaning
    follows = record { since = omega (arith, now_is); by = omega (arith, now_is); short = accepts.short }

    space : (records : List Meaning) → store_with s records ≡ store → pages_in (drop gone records) + charge_of (length stored.octets) ≤ s.size
    space records whole =
        let fits = room blocks image d table stored at s store turn gone accepts in
        omega (arith, fits, pages_dropped s records store gone whole)

    -- as big as the row says
    put_index : (entry : Entry) → record (with_entry (without_first index gone) entry) { size = s.size } ≡ index_behind_put gone entry index
    put_index entry = resized (index_behind_put gone entry index) s.size size_is

    pub taken_places : (spells : SpellsBehind image s stored) → let new = listed_behind (Takes gone) s in
        index_of table_rule image d.now new.row new.links
        ≡ Some (index_behind_put gone
        (entry_of stored (last_of spells.link spells.links).block (used_by image s.row spells.link spells.links)) index)
    taken_places spells =
        let (records, keeps, whole) = keeps_is blocks image d table stored at s store turn in
        let all = subst (λ (l : List Link). Keeps table_rule blocks image d.now s.row l records) spells.some keeps in
        let row = row_behind_put gone s.row in
        ap (λ (l : List Link). index_of table_rule image d.now row (trimmed row.first row.count l)) spells.some
        ∙ record_indexed table_rule blocks image d.now d.now s.row spells.link spells.links records index gone row meaning all
        (sym (ap (index_of table_rule image d.now s.row) spells.some) ∙ is) (omega arith) goes_on spells.spelled follows (space records whole)
        ∙ ap Some (put_index (entry_of stored (last_of spells.link spells.links).block (used_by image s.row spells.link spells.links)))

    module _ (new : Link) (spells : SpellsFirst blocks image d s new stored) where
      -- where the store has no block
      first_places : s.links ≡ [] → let behind = listed_behind (Begins gone new) s in
          index_of table_rule image d.now behind.row behind.links ≡ Some (index_behind_put gone (entry_of stored new.block 0) index)
      first_places none =
          let (records, keeps, whole) = keeps_is blocks image d table stored at s store turn in
          let row = row_behind_put gone s.row in
          let no_count : s.count ≡ 0 =
          eqb-true s.count 0 (sym (ap (begins_well s.row) none) ∙ (kept_parts table_rule image d.now s.row s.links records keeps.kept).begins) in
          let few_gone = few blocks image d table stored at s store turn gone accepts in
          let one : row.count ≡ 1 = omega (arith, no_count, few_gone) in
          let same : end_of s.row ≡ row.first = omega (arith, no_count, few_gone) in
          let here = index_is table_rule image d.now s.row [] records index (sym (ap (λ (l : List Link). kept_of table_rule image d.now s.row l) none) ∙ keeps.kept) (sym (ap (index_of table_rule image d.now s.row) none) ∙ is) in
          let fits = space records whole in
          ap (λ (l : List Link). index_of table_rule image d.now row (trimmed row.first row.count (l ++ new ∷ []))) none
          ∙ ap (index_of table_rule image d.now row) (trim_suc row.first row.count 0 new [] one)
          ∙ first_indexed table_rule image d.now row new meaning (omega arith) one (spells.first ∙ same)
          (sym (ap (λ (n : ℕ). record_at (block_octets image new.block) n 0) same) ∙ spells.spelled)
          (omega (arith, now_is)) accepts.short (omega (arith, fits))
          ∙ ap Some (made here)
        where
          made : index_with s.row [] ≡ index → index_with (row_behind_put gone s.row) (entry_of stored new.block 0 ∷ []) ≡ index_behind_put gone (entry_of stored new.block 0) index
          made here = subst (λ (x : TimeIndex). index_with (row_behind_put gone s.row) (entry_of stored new.block 0 ∷ []) ≡ index_behind_put gone (entry_of stored new.block 0) x) here (nothing gone)
            where
              nothing : (n : ℕ) → index_with (row_behind_put n s.row) (entry_of stored new.block 0 ∷ []) ≡ index_behind_put n (entry_of stored new.block 0) (index_with s.row [])
              nothing zero = refl
              nothing (suc n) = refl

      -- behind a full block
      further_places : (link : Link) (links : List Link) → s.links ≡ link ∷ links → let behind = listed_behind (Begins gone new) s in
          index_of table_rule image d.now behind.row behind.links ≡ Some (index_behind_put gone (entry_of stored new.block 0) index)
      further_places link links some =
          let (records, keeps, whole) = keeps_is blocks image d table stored at s store turn in
          let row = row_behind_put gone s.row in
          let all = subst (λ (l : List Link). Keeps table_rule blocks image d.now s.row l records) some keeps in
          let many = few_links blocks image d.now s.row s.links records keeps spells.full in
          let own : IsLinkOf blocks new = record { block = (data_tests blocks new.block spells.own).1; first = omega (arith, spells.first) } in
          ap (λ (l : List Link). index_of table_rule image d.now row (trimmed row.first row.count (l ++ new ∷ []))) some
          ∙ block_indexed table_rule blocks image d.now s.row link links records index new all
          (sym (ap (index_of table_rule image d.now s.row) some) ∙ is) spells.first (subst (IsFull image s.row) some spells.full) own
          (omega (arith, many, ap length some, size_few)) d.now gone row meaning (omega arith) goes_on spells.spelled follows (space records whole)
          ∙ ap Some (put_index (entry_of stored new.block 0))

      pub begun_places : let behind = listed_behind (Begins gone new) s in
          index_of table_rule image d.now behind.row behind.links ≡ Some (index_behind_put gone (entry_of stored new.block 0) index)
      begun_places = by_links s.links refl
        where
          by_links : (links : List Link) → s.links ≡ links → let behind = listed_behind (Begins gone new) s in
              index_of table_rule image d.now behind.row behind.links ≡ Some (index_behind_put gone (entry_of stored new.block 0) index)
          by_links [] is = first_places is
          by_links (link ∷ links) is = further_places link links is

-- the walk, behind the store
module _ (blocks : ℕ) (image : ℕ → List ℕ) (d : Directory) (table : Table) (stored : Stored) (at : ℕ) (changes : List Change) (before : Directory) (s : Listed)
    (outcome : Outcome) (goes : HasGoneOn blocks image d table stored at changes before s outcome)
    (walk : HasOffered blocks image d table stored at changes before) where
  pub same_now : before.now ≡ goes.next.now
  same_now =
      walk_now blocks image d table stored at changes before walk
      ∙ sym (walk_now blocks image d table stored (at + 1) (changes ++ changes_of_put s.row outcome) goes.next goes.walk)

  pub places_then : (x : Listed) (index : TimeIndex) → index_of table_rule image before.now x.row x.links ≡ Some index
      → index_of table_rule image goes.next.now x.row x.links ≡ Some index
  places_then x index is = subst (λ (n : ℕ). index_of table_rule image n x.row x.links ≡ Some index) same_now is

  pub others_then : (place : ℕ) (other : Listed) (index : TimeIndex) → (place == at) ≡ false → slice_get before.stores place ≡ Some other
      → index_of table_rule image before.now other.row other.links ≡ Some index
      → (slice_get goes.next.stores place ≡ Some other) × (index_of table_rule image goes.next.now other.row other.links ≡ Some index)
  others_then place other index differs listed is = (
    ap (λ (l : List Listed). slice_get l place) goes.stores ∙ get_other before.stores at place (listed_behind outcome s) differs ∙ listed,
    places_then other index is,
  )
