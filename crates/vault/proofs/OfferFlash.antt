-- What the flash holds goes on while a packet is offered to one store after another.
use Rattle.std.proofs.Common.{◌≡◌, ℕ, ◌+◌, ◌*◌, ◌<◌, ◌==◌, not, Bool, true, false, List, [], ◌∷◌, ◌++◌, length, map, slice_set, get_or, eq-eqb, Some, refl, sym, ◌∙◌, ap, subst}
use Rattle.std.specs.Prelude.{slice_get}
use Rattle.std.proofs.lemmas.Bool.{and_parts}
use Rattle.std.proofs.lemmas.List.{get_or-set_other}
use Rattle.std.proofs.lemmas.Option.{same_Some}
use Rattle.block_pool.specs.Blocks.{Blocks, IsPool, is_free, is_ready}
use Rattle.board.specs.Flash.{Flash, IsContent}
use Rattle.board.specs.Touches.{KeptElsewhere}
use Rattle.chain_log.specs.Pages.{IsCleanFrom}
use Rattle.image_table.specs.Table.{table_rule}
use Rattle.pst_model.specs.Arrivals.{is_offered}
use Rattle.pst_model.specs.Table.{Store, Stored, Table}
use Rattle.put_laws.specs.Indexes.{AreIndexedAt, entry_of, index_behind_put}
use Rattle.put_laws.specs.Puts.{Accepts, Begins, Outcome, Refuses, SpellsAt, SpellsBehind, SpellsFirst, Stays, Takes, Tells, changes_of_put, listed_behind, need_of}
use Rattle.put_laws.specs.Walks.{HasGoneOn, HasOffered, IsTurn}
use Rattle.put_laws.proofs.Beginning as beginning
use Rattle.put_laws.proofs.Indexed.{more_indexed, refused_indexed, unoffered_indexed}
use Rattle.put_laws.proofs.LastBlocks.{begun_last, taken_last, told_last}
use Rattle.put_laws.proofs.PlacesOn.{begun_places, taken_places, told_places, walk_now}
use Rattle.put_laws.proofs.Spots.{set_same}
use Rattle.put_laws.proofs.Staying.{passed_by, told_already}
use Rattle.put_laws.proofs.Taking.{takes}
use Rattle.put_laws.proofs.Telling.{tells}
use Rattle.put_laws.proofs.Turns.{turn_of}
use Rattle.record_view.specs.declared.link.Link.{Link}
use Rattle.store_directory.specs.Changes.{Change, apply_all}
use Rattle.store_directory.specs.Directory.{Directory, Listed, is_new}
use Rattle.store_load.specs.Claims.{block_of, may_share}
use Rattle.store_load.specs.Extents.{end_of, last_of}
use Rattle.store_load.specs.Loaded.{index_of, used_in}
use Rattle.store_load.specs.Moving.{used_by}
use Rattle.store_put.specs.Pools.{IsTaken, is_unlinked}
use Rattle.store_put.specs.Staying.{StaysOn}
use Rattle.store_put.proofs.OwnBlocks.{new_to_each, own_of_shared}
use Rattle.store_put.proofs.Unlinked.{free_other}
use Rattle.time_index.specs.TimeIndex.{TimeIndex}
use Rattle.vault.proofs.Besides.{HoldsStill}
use Rattle.vault.proofs.OfferBlocks.{clean_by_last, clean_by_one, clean_kept, clean_of_other, last_at, new_last, not_same, unlinked_new}
use Rattle.vault.proofs.OfferPlaces.{each_here, each_replaced, each_set}
use Rattle.vault.specs.Memory.{EachStore, InMemory}
use Rattle.vault.specs.Offering.{IsAt}
use Rattle.vault.specs.Standing.{IsCleanBehind, IsStoreOf}
use Rattle.vault.specs.Storing.{OffersOn}
use Rattle.vault.specs.declared.last_block.LastBlock.{LastBlock}

pub still_of : (flash : Flash) (old now : InMemory) (table : Table) (stored : Stored) (at : ℕ) (changes : List Change) → OffersOn flash old now table stored at changes
    → HoldsStill old.blocks old.directory.directory old.journal table flash
still_of flash old now table stored at changes offers = record {
  pages = offers.offered.pages;
  kept = offers.kept;
  journal = offers.journal;
  loads = offers.loads;
  firm_records = offers.firm_records;
}

module _ (flash : Flash) (old now next : InMemory) (table : Table) (stored : Stored) (at : ℕ) (changes : List Change)
    (offers : OffersOn flash old now table stored at changes) (s : Listed) (index : TimeIndex) (last : LastBlock) (here : IsAt now at s index last)
    (was : IsAt old at s index last) (store : Store) (shown : slice_get table.stores at ≡ Some store) where
  abbrev d : Directory
  d = old.directory.directory

  abbrev before : Directory
  before = now.directory.directory

  abbrev turn : IsTurn d table at s store
  turn = record { listed = was.listed; shown = shown }

  now_is : before.now ≡ stored.time
  now_is = walk_now old.blocks flash.content d table stored at changes before offers.offered

  pub own : IsStoreOf flash stored.time s index last
  own = each_here (IsStoreOf flash stored.time) before.stores now.indexes now.lasts at s index last offers.stores here.listed here.indexed here.known

  -- one store more
  flash_on : (new : Flash) (outcome : Outcome) → HoldsStill old.blocks d old.journal table new
      → HasGoneOn old.blocks new.content d table stored at changes before s outcome
      → apply_all before (changes_of_put s.row outcome) ≡ Some next.directory.directory → AreIndexedAt stored (at + 1) table next.indexes
      → EachStore (IsStoreOf new stored.time) (slice_set before.stores at (listed_behind outcome s)) next.indexes next.lasts
      → ((block : ℕ) → is_free next.pool block ≡ true → is_ready next.pool block ≡ true → IsCleanFrom new block 0)
      → OffersOn new old next table stored (at + 1) (changes ++ changes_of_put s.row outcome)
  flash_on new outcome still goes made indexed stores ready =
      let same : goes.next ≡ next.directory.directory = same_Some goes.next next.directory.directory (sym goes.applied ∙ made) in
      record {
        kept = still.kept;
        journal = still.journal;
        loads = still.loads;
        firm_records = still.firm_records;
        offered =
            subst (λ (e : Directory). HasOffered old.blocks new.content d table stored (at + 1) (changes ++ changes_of_put s.row outcome) e) same goes.walk;
        indexed = indexed;
        stores =
            subst (λ (l : List Listed). EachStore (IsStoreOf new stored.time) l next.indexes next.lasts)
            (sym goes.stores ∙ ap (λ (e : Directory). e.stores) same) stores;
        ready = ready;
      }

  -- the store stays as it is, or tells a refusal

  module _ (others : next ≡ record now { directory = next.directory }) where
    indexes_are : now.indexes ≡ next.indexes
    indexes_are = sym (ap (λ (v : InMemory). v.indexes) others)

    lasts_are : now.lasts ≡ next.lasts
    lasts_are = sym (ap (λ (v : InMemory). v.lasts) others)

    ready_same : (block : ℕ) → is_free next.pool block ≡ true → is_ready next.pool block ≡ true → IsCleanFrom flash block 0
    ready_same block free marked =
        let same : next.pool ≡ now.pool = ap (λ (v : InMemory). v.pool) others in
        offers.ready block (ap (λ (p : Blocks). is_free p block) (sym same) ∙ free) (ap (λ (p : Blocks). is_ready p block) (sym same) ∙ marked)

    same_flash : (outcome : Outcome) → HasGoneOn old.blocks flash.content d table stored at changes before s outcome
        → apply_all before (changes_of_put s.row outcome) ≡ Some next.directory.directory → AreIndexedAt stored (at + 1) table now.indexes
        → EachStore (IsStoreOf flash stored.time) (slice_set before.stores at (listed_behind outcome s)) now.indexes now.lasts
        → OffersOn flash old next table stored (at + 1) (changes ++ changes_of_put s.row outcome)
    same_flash outcome goes made indexed stores =
        flash_on flash outcome (still_of flash old now table stored at changes offers) goes made
        (subst (AreIndexedAt stored (at + 1) table) indexes_are indexed)
        (subst (λ (l : List TimeIndex). EachStore (IsStoreOf flash stored.time) (slice_set before.stores at (listed_behind outcome s)) l next.lasts) indexes_are
        (subst (λ (l : List LastBlock). EachStore (IsStoreOf flash stored.time) (slice_set before.stores at (listed_behind outcome s)) now.indexes l) lasts_are stores))
        ready_same

    stays_in : EachStore (IsStoreOf flash stored.time) (slice_set before.stores at s) now.indexes now.lasts
    stays_in =
        subst (λ (l : List Listed). EachStore (IsStoreOf flash stored.time) l now.indexes now.lasts) (sym (set_same before.stores at s here.listed)) offers.stores

    pub flash_passes : is_offered stored.octets store ≡ false → apply_all before [] ≡ Some next.directory.directory
        → OffersOn flash old next table stored (at + 1) (changes ++ changes_of_put s.row Stays)
    flash_passes is made =
        same_flash Stays (passed_by old.blocks flash.content d table stored at changes before s store offers.offered turn is) made
        (unoffered_indexed stored at table now.indexes store offers.indexed shown is) stays_in

    pub flash_told : Refuses store stored → s.row.told ≡ true → apply_all before [] ≡ Some next.directory.directory
        → OffersOn flash old next table stored (at + 1) (changes ++ changes_of_put s.row Stays)
    flash_told refuses told made =
        same_flash Stays (told_already old.blocks flash.content d table stored at changes before s store offers.offered turn refuses told) made
        (refused_indexed stored at table now.indexes store offers.indexed shown refuses) stays_in

    pub flash_tells : Refuses store stored → apply_all before (changes_of_put s.row Tells) ≡ Some next.directory.directory
        → OffersOn flash old next table stored (at + 1) (changes ++ changes_of_put s.row Tells)
    flash_tells refuses made =
        same_flash Tells (tells old.blocks flash.content d table stored at changes before s store offers.offered turn refuses) made
        (refused_indexed stored at table now.indexes store offers.indexed shown refuses)
        (each_replaced (IsStoreOf flash stored.time) before.stores now.indexes now.lasts at s (listed_behind Tells s) offers.stores here.listed told_store)
      where
        told_store : (i : TimeIndex) (l : LastBlock) → IsStoreOf flash stored.time s i l → IsStoreOf flash stored.time (listed_behind Tells s) i l
        told_store i l is =
            let new = listed_behind Tells s in
            let last_is = told_last old.blocks flash.content d table stored at changes before s store offers.offered turn in
            record {
              index_is =
                  subst (λ (n : ℕ). index_of table_rule flash.content n new.row new.links ≡ Some i) now_is
                  (told_places old.blocks flash.content before table stored at s store
                  (turn_of old.blocks flash.content d table stored at changes before s store offers.offered turn) now_is i
                  (subst (λ (n : ℕ). index_of table_rule flash.content n s.row s.links ≡ Some i) (sym now_is) is.index_is));
              used_is = is.used_is ∙ sym last_is.1;
              clean = λ fresh. clean_by_last flash s.links new.links l.used last_is.0 (is.clean fresh);
            }

  -- The store takes the packet: its record was written to pages that no other record has.

  module _ (new : Flash) (pages : IsContent old.blocks new.content) (these : ℕ → Bool) (kept : KeptElsewhere these flash new)
      (stays : StaysOn old.blocks flash.content new.content d table stored at changes before)
      (still : HoldsStill old.blocks d old.journal table new) (block : ℕ)
      (out : (other q : ℕ) → (block ≡ other → ⊥) → q < 256 → these (256 * other + q) ≡ false) (gone : ℕ) (accepts : Accepts store stored gone) where
    now_new : before.now ≡ stored.time
    now_new = walk_now old.blocks new.content d table stored at changes before stays.walk

    index_at : (place : ℕ) (t : Listed) (i : TimeIndex) → slice_get before.stores place ≡ Some t
        → index_of table_rule flash.content stored.time t.row t.links ≡ Some i → index_of table_rule new.content stored.time t.row t.links ≡ Some i
    index_at place t i there is =
        subst (λ (n : ℕ). index_of table_rule new.content n t.row t.links ≡ Some i) now_is
        (stays.places place t i there (subst (λ (n : ℕ). index_of table_rule flash.content n t.row t.links ≡ Some i) (sym now_is) is))

    other_store : (place : ℕ) (t : Listed) (i : TimeIndex) (l : LastBlock) → is_new block (map block_of t.links) ≡ true → slice_get before.stores place ≡ Some t
        → IsStoreOf flash stored.time t i l → IsStoreOf new stored.time t i l
    other_store place t i l fresh there is = record {
      index_is = index_at place t i there is.index_is;
      used_is = is.used_is ∙ sym (stays.used place t there);
      clean = λ not_stale. clean_of_other these flash new block t.links l.used kept out fresh (is.clean not_stale);
    }

    -- a free block is another one
    ready_other : (other : ℕ) → (block ≡ other → ⊥) → is_free now.pool other ≡ true → is_ready now.pool other ≡ true → IsCleanFrom new other 0
    ready_other other differs free marked = clean_kept these flash new other 0 kept (λ q high. out other q differs high) (offers.ready other free marked)

    -- into its last block, behind its last record
    pub flash_takes : (link : Link) (links : List Link) → s.links ≡ link ∷ links → block ≡ (last_of link links).block
        → SpellsAt new.content block last.used (end_of s.row) stored → IsCleanFrom new block (last.used + need_of stored)
        → may_share 240 old.blocks before.stores ≡ true
        → ((other : ℕ) → is_free now.pool other ≡ true → is_unlinked old.blocks before.stores other ≡ true)
        → apply_all before (changes_of_put s.row (Takes gone)) ≡ Some next.directory.directory
        → next.indexes ≡ slice_set now.indexes at (index_behind_put gone (entry_of stored block last.used) index)
        → next.lasts ≡ slice_set now.lasts at (record { used = last.used + need_of stored; stale = false })
        → next.pool ≡ now.pool → OffersOn new old next table stored (at + 1) (changes ++ changes_of_put s.row (Takes gone))
    flash_takes link links some is_last spelled clean share unnamed made indexes_are lasts_are pool_is =
        let used_new : used_in new.content s.row s.links ≡ last.used = stays.used at s here.listed ∙ sym own.used_is in
        let used_some : used_by new.content s.row link links ≡ last.used = ap (used_in new.content s.row) (sym some) ∙ used_new in
        let spells : SpellsBehind new.content s stored = record {
          link = link;
          links = links;
          some = some;
          spelled =
              subst (λ (b : ℕ). SpellsAt new.content b (used_by new.content s.row link links) (end_of s.row) stored) is_last
              (subst (λ (n : ℕ). SpellsAt new.content block n (end_of s.row) stored) (sym used_some) spelled);
        } in
        let goes = takes old.blocks new.content d table stored at changes before s store stays.walk turn gone accepts spells in
        let t = turn_of old.blocks new.content d table stored at changes before s store stays.walk turn in
        let behind = listed_behind (Takes gone) s in
        let entry = entry_of stored block last.used in
        let marked_last : LastBlock = record { used = last.used + need_of stored; stale = false } in
        let last_is = taken_last old.blocks new.content d table stored at changes before s store stays.walk turn gone accepts spells in
        let entry_is : entry_of stored (last_of link links).block (used_by new.content s.row link links) ≡ entry =
        (λ i. entry_of stored (sym is_last i) (used_some i)) in
        let index_now : index_of table_rule new.content before.now s.row s.links ≡ Some index =
        subst (λ (n : ℕ). index_of table_rule new.content n s.row s.links ≡ Some index) (sym now_is) (index_at at s index here.listed own.index_is) in
        let index_behind : index_of table_rule new.content stored.time behind.row behind.links ≡ Some (index_behind_put gone entry index) =
        subst (λ (n : ℕ). index_of table_rule new.content n behind.row behind.links ≡ Some (index_behind_put gone entry index)) now_is
        (taken_places old.blocks new.content before table stored at s store t now_new index index_now gone accepts spells
        ∙ (λ i. Some (index_behind_put gone (entry_is i) index))) in
        let here_is : IsStoreOf new stored.time behind (index_behind_put gone entry index) marked_last = record {
          index_is = index_behind;
          used_is = ap (λ (n : ℕ). n + need_of stored) (sym used_new) ∙ sym last_is.1;
          clean = λ fresh. clean_by_last new s.links behind.links (last.used + need_of stored) last_is.0
              (subst (λ (l : List Link). IsCleanBehind new l (last.used + need_of stored)) (sym some)
              (subst (λ (b : ℕ). IsCleanFrom new b (last.used + need_of stored)) is_last clean));
        } in
        let last_there : slice_get s.links (length links) ≡ Some (last_of link links) =
        ap (λ (l : List Link). slice_get l (length links)) some ∙ last_at link links in
        let elsewhere = λ (place : ℕ) (x : Listed) (i : TimeIndex) (l : LastBlock) (differs : (place == at) ≡ false) (there : slice_get before.stores place ≡ Some x) (is : IsStoreOf flash stored.time x i l).
        other_store place x i l
        (subst (λ (b : ℕ). is_new b (map block_of x.links) ≡ true) (sym is_last)
        (own_of_shared old.blocks before.stores at place s x (length links) (last_of link links) share here.listed there differs last_there)) there is in
        flash_on new (Takes gone) still goes made
        (subst (AreIndexedAt stored (at + 1) table) (sym indexes_are)
        (more_indexed stored at table now.indexes store offers.indexed shown index gone entry here.indexed accepts (record { stamp = refl; length = refl })))
        (subst (λ (i : List TimeIndex). EachStore (IsStoreOf new stored.time) (slice_set before.stores at behind) i next.lasts) (sym indexes_are)
        (subst (λ (l : List LastBlock). EachStore (IsStoreOf new stored.time) (slice_set before.stores at behind) (slice_set now.indexes at (index_behind_put gone entry index)) l) (sym lasts_are)
        (each_set (IsStoreOf flash stored.time) (IsStoreOf new stored.time) before.stores now.indexes now.lasts at s behind (index_behind_put gone entry index) marked_last
        elsewhere offers.stores here.listed here_is)))
        (λ other free marked.
        let was_free = ap (λ (p : Blocks). is_free p other) (sym pool_is) ∙ free in
        let was_ready = ap (λ (p : Blocks). is_ready p other) (sym pool_is) ∙ marked in
        let fresh = new_to_each other before.stores at s (unlinked_new old.blocks before.stores other (unnamed other was_free)) here.listed in
        let fresh_some = subst (λ (l : List Link). is_new other (map block_of l) ≡ true) some fresh in
        ready_other other (λ same. new_last other link links fresh_some (sym same ∙ is_last)) was_free was_ready)

    -- or into a new block
    pub flash_begins : (link : Link) → link.block ≡ block → SpellsFirst old.blocks new.content before s link stored → IsCleanFrom new block (need_of stored)
        → is_unlinked old.blocks before.stores block ≡ true → IsPool now.pool → IsTaken now.pool next.pool block
        → apply_all before (changes_of_put s.row (Begins gone link)) ≡ Some next.directory.directory
        → next.indexes ≡ slice_set now.indexes at (index_behind_put gone (entry_of stored block 0) index)
        → next.lasts ≡ slice_set now.lasts at (record { used = need_of stored; stale = false })
        → OffersOn new old next table stored (at + 1) (changes ++ changes_of_put s.row (Begins gone link))
    flash_begins link is_block spells clean unlinked lawful taken made indexes_are lasts_are =
        let goes = beginning.begins old.blocks new.content d table stored at changes before s store gone link stays.walk turn accepts spells in
        let t = turn_of old.blocks new.content d table stored at changes before s store stays.walk turn in
        let behind = listed_behind (Begins gone link) s in
        let entry = entry_of stored block 0 in
        let marked_last : LastBlock = record { used = need_of stored; stale = false } in
        let last_is = begun_last old.blocks new.content d table stored at changes before s store stays.walk turn gone accepts link spells in
        let index_now : index_of table_rule new.content before.now s.row s.links ≡ Some index =
        subst (λ (n : ℕ). index_of table_rule new.content n s.row s.links ≡ Some index) (sym now_is) (index_at at s index here.listed own.index_is) in
        let index_behind : index_of table_rule new.content stored.time behind.row behind.links ≡ Some (index_behind_put gone entry index) =
        subst (λ (n : ℕ). index_of table_rule new.content n behind.row behind.links ≡ Some (index_behind_put gone entry index)) now_is
        (begun_places old.blocks new.content before table stored at s store t now_new index index_now gone accepts link spells
        ∙ (λ i. Some (index_behind_put gone (entry_of stored (is_block i) 0) index))) in
        let here_is : IsStoreOf new stored.time behind (index_behind_put gone entry index) marked_last = record {
          index_is = index_behind;
          used_is = sym last_is.1;
          clean = λ fresh. clean_by_one new behind.links link (need_of stored) last_is.0
              (subst (λ (b : ℕ). IsCleanFrom new b (need_of stored)) (sym is_block) clean);
        } in
        let fresh_block = unlinked_new old.blocks before.stores block unlinked in
        let elsewhere = λ (place : ℕ) (x : Listed) (i : TimeIndex) (l : LastBlock) (differs : (place == at) ≡ false) (there : slice_get before.stores place ≡ Some x) (is : IsStoreOf flash stored.time x i l).
        other_store place x i l (new_to_each block before.stores place x fresh_block there) there is in
        flash_on new (Begins gone link) still goes made
        (subst (AreIndexedAt stored (at + 1) table) (sym indexes_are)
        (more_indexed stored at table now.indexes store offers.indexed shown index gone entry here.indexed accepts (record { stamp = refl; length = refl })))
        (subst (λ (i : List TimeIndex). EachStore (IsStoreOf new stored.time) (slice_set before.stores at behind) i next.lasts) (sym indexes_are)
        (subst (λ (l : List LastBlock). EachStore (IsStoreOf new stored.time) (slice_set before.stores at behind) (slice_set now.indexes at (index_behind_put gone entry index)) l) (sym lasts_are)
        (each_set (IsStoreOf flash stored.time) (IsStoreOf new stored.time) before.stores now.indexes now.lasts at s behind (index_behind_put gone entry index) marked_last
        elsewhere offers.stores here.listed here_is)))
        (λ other free marked.
        let was = free_other now.pool next.pool block other lawful taken free in
        ready_other other (λ same. one_new other block was.1 (sym same)) was.0 (ready_before other marked was.1))
      where
        one_new : (other block : ℕ) → is_new other (block ∷ []) ≡ true → other ≡ block → ⊥
        one_new other block fresh is =
            not_same (other == block) (and_parts (not (other == block)) true fresh).0 (eq-eqb other block is)

        ready_before : (other : ℕ) → is_ready next.pool other ≡ true → is_new other (block ∷ []) ≡ true → is_ready now.pool other ≡ true
        ready_before other marked fresh =
            sym (get_or-set_other now.pool.ready block other false false (one_new other block fresh))
            ∙ ap (λ (l : List Bool). get_or l other false) (sym taken.ready) ∙ marked
