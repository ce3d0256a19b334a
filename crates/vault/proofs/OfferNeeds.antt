-- What the calls of an offer ask for.
use Rattle.std.proofs.Common.{◌≡◌, inl, inr, ℕ, ◌+◌, ◌<◌, ◌≤◌, ◌&&◌, nat_le, nat_lt, true, false, List, [], ◌∷◌, ◌++◌, length, map, drop, Result, Ok, Err, Some, refl, sym, ◌∙◌, ap, subst, arith}
use Rattle.std.specs.Prelude.{OnErr, slice_get}
use Rattle.std.specs.List.{list_all}
use Rattle.std.proofs.lemmas.Bool.{and_parts, false≢true, le-leb, leb-false, leb-true}
use Rattle.std.proofs.lemmas.Option.{same_Some}
use Rattle.block_pool.specs.Blocks.{Blocks, free_count, is_free, is_ready}
use Rattle.board.specs.Flash.{Flash}
use Rattle.board.specs.Meaning.{BoardMeaning, TellsFlash}
use Rattle.board.proofs.Works.{tells_too}
use Rattle.chain_log.specs.Pages.{IsCleanFrom, IsDataBlock}
use Rattle.image_table.proofs.Frames.{data_links, data_tests, shared_links}
use Rattle.pst_model.specs.Table.{Store, Stored, Table}
use Rattle.put_laws.specs.Indexes.{entry_of}
use Rattle.put_laws.specs.Puts.{Accepts, need_of}
use Rattle.put_laws.proofs.Applies.{links_fit_in, new_linked}
use Rattle.put_laws.proofs.Spots.{set_in, spot}
use Rattle.record_view.specs.declared.link.Link.{Link}
use Rattle.space_packet.specs.Charge.{charge_of}
use Rattle.store_directory.specs.Changes.{Links, apply}
use Rattle.store_directory.specs.Directory.{Directory, FitsLink, Listed, is_new, with_stores}
use Rattle.store_load.specs.Claims.{all_links, block_of, is_data, may_share}
use Rattle.store_load.specs.Extents.{last_of}
use Rattle.store_load.proofs.Rows.{row_numbers}
use Rattle.store_policy.specs.Shown.{IsShown}
use Rattle.store_put.specs.Ranges.{IsFullBy}
use Rattle.store_put.proofs.Going.{full_has_room}
use Rattle.store_put.proofs.Unlinked.{got_set}
use Rattle.store_put.proofs.Walked.{listed, some_free}
use Rattle.time_index.specs.TimeIndex.{EndsBy, pages_of}
use Rattle.time_index.specs.declared.entry.Entry.{Entry}
use Rattle.vault.proofs.OfferMemory.{HasTurn, one_back}
use Rattle.vault.proofs.OfferPlaces.{each_here}
use Rattle.vault.proofs.OfferQuiet.{accepts_takes}
use Rattle.vault.proofs.OfferShown.{ShownAt, accepted_pages, ends_by, some_shown, standing_at}
use Rattle.vault.proofs.Places.{each_at}
use Rattle.vault.specs.Memory.{InMemory}
use Rattle.vault.specs.Offering.{CanBeCounted, HasStoreAt, IsAt, IsLinked, TakesAt, link_behind}
use Rattle.vault.specs.Standing.{IsCleanBehind, IsStoreOf, StandsFor}
use Rattle.vault.specs.Storing.{HasPut, IsFreshFor, is_full, used_of}
use Rattle.vault.specs.Storing.{takes as is_taken}
use Rattle.vault.specs.declared.last_block.LastBlock.{LastBlock}

-- what holds anyway holds on a failure
pub err_any : {A E : Type 0} (r : Result A E) {P : Type 0} → P → OnErr r P
err_any (Ok x) p = tt
err_any (Err e) p = p

-- the last block of a store is a data block

last_data : (blocks : ℕ) (link : Link) (links : List Link) → list_all (is_data blocks) (link ∷ links) ≡ true → IsDataBlock blocks (last_of link links).block
last_data blocks link [] own = data_tests blocks link.block (and_parts (is_data blocks link) true own).0
last_data blocks link (next ∷ links) own = last_data blocks next links (and_parts (is_data blocks link) (list_all (is_data blocks) (next ∷ links)) own).1

pub own_block : (blocks : ℕ) (stores : List Listed) (at : ℕ) (s : Listed) (link : Link) (links : List Link) → may_share 240 blocks stores ≡ true
    → slice_get stores at ≡ Some s → s.links ≡ link ∷ links → IsDataBlock blocks (last_of link links).block
own_block blocks stores at s link links share is some =
    let all = each_at (λ (s : Listed). list_all (is_data blocks) s.links ≡ true) stores at s (data_links blocks stores (shared_links blocks stores share)) is in
    last_data blocks link links (ap (list_all (is_data blocks)) (sym some) ∙ all)

-- whether a last block has room, as a test and as numbers

pub room_left : (links : List Link) (last : LastBlock) → is_full links last ≡ false → (1 ≤ length links) × (last.used < 240)
room_left [] last is = absurd (false≢true (sym is))
room_left (link ∷ links) last is = (omega arith, leb-false 240 last.used is)

pub none_left : (links : List Link) (last : LastBlock) → is_full links last ≡ true → IsFullBy last.used links
none_left [] last is = tt
none_left (link ∷ links) last is = leb-true 240 last.used is

not_full : (links : List Link) (last : LastBlock) → is_full links last ≡ false → IsFullBy last.used links → ⊥
not_full [] last is full = false≢true (sym is)
not_full (link ∷ links) last is full = false≢true (sym is ∙ le-leb 240 last.used full)

-- A directory with another link of the store at a place.
pub record LinksTo (blocks : ℕ) (d : Directory) (at : ℕ) (s : Listed) (link : Link) : Type 0 where
  pub m : Directory
  pub applied : apply d (Links s.identifier (link ∷ [])) ≡ Some m
  pub share : may_share 240 blocks m.stores ≡ true
  pub there : slice_get m.stores at ≡ Some (record s { links = s.links ++ link ∷ [] })

-- the turn of a store, as the calls ask for it
pub store_at : (old now : InMemory) (stored : Stored) (at : ℕ) → HasTurn old now stored at → HasStoreAt now at
store_at old now stored at turn =
    let range = turn.place.in_range in
    record {
      s = turn.s;
      index = turn.index;
      last = turn.last;
      here = turn.here;
      together = record { first = range.first; count = range.count; size = range.size };
      filled = omega (arith, range.pages, range.size);
    }

-- the store in its place in the table that the vault stood for
pub shown_store : (old now : InMemory) (stored : Stored) (at : ℕ) (turn : HasTurn old now stored at) (flash : Flash) (table : Table) → StandsFor old flash table
    → ShownAt table at turn.s turn.index
shown_store old now stored at turn flash table stands = standing_at old flash table at turn.s turn.index stands turn.was.listed turn.was.indexed

module _ {B : Type 0} (means : BoardMeaning B) (start board : B) (old now : InMemory) (stored : Stored) (at : ℕ) (text : List ℕ)
    (put : HasPut means start board old now stored at text) (turn : HasTurn old now stored at) where
  abbrev s : Listed
  s = turn.s

  -- the flash of the board tells what the vault stood for
  pub told_before : TellsFlash means board → TellsFlash means start
  told_before told = tells_too (sym put.quiet.same) told

  -- what is free and ready is clean
  pub ready_now : TellsFlash means board → (block : ℕ) → is_free now.pool block ≡ true → is_ready now.pool block ≡ true → IsCleanFrom (means.flash board) block 0
  ready_now told =
      let (table, stands) = put.stood (told_before told) in (put.flash (told_before told) table stands).ready

  module _ (gone : ℕ) (takes : TakesAt now stored at gone) where
    pub accepts : (store : Store) → IsShown store s.row turn.index → store.patterns ≡ s.patterns → Accepts store stored gone
    accepts = takes.accepts s turn.index turn.last turn.here

    pub few : gone ≤ s.row.count
    few = takes.within s turn.index turn.last turn.here

    pub accepted : (table : Table) → (one : ShownAt table at s turn.index) → is_taken stored.octets one.store ≡ true
    accepted table one = accepts_takes stored one.store gone (accepts one.store one.shown one.patterns)

    -- a last block with room is not stale
    pub not_stale : is_full s.links turn.last ≡ false → turn.last.stale ≡ false
    not_stale room =
        let fresh = each_here (IsFreshFor stored.octets) old.directory.stores old.indexes old.lasts at s turn.index turn.last put.memory.fresh
        turn.was.listed turn.was.indexed turn.was.known in
        let some = some_shown s turn.index in
        let accepted = accepts some.store some.shown some.patterns in
        elim (fresh some.store gone some.shown some.patterns
        (record { offered = accepted.offered; room = accepted.room; leaving = accepted.leaving; short = accepted.short })) [
          | inl full ↦ absurd (not_full s.links turn.last room full)
          | inr is ↦ is
        ]

    pub clean_now : (block : ℕ) (link : Link) (links : List Link) → s.links ≡ link ∷ links → block ≡ (last_of link links).block
        → is_full s.links turn.last ≡ false → TellsFlash means board → IsCleanFrom (means.flash board) block turn.last.used
    clean_now block link links some is room told =
        let (table, stands) = put.stood (told_before told) in
        let flash = means.flash board in
        let offers = put.flash (told_before told) table stands in
        let one = each_here (IsStoreOf flash stored.time) now.directory.stores now.indexes now.lasts at s turn.index turn.last offers.stores
        turn.here.listed turn.here.indexed turn.here.known in
        subst (λ (b : ℕ). IsCleanFrom flash b turn.last.used) (sym is)
        (subst (λ (l : List Link). IsCleanBehind flash l turn.last.used) some (one.clean (not_stale room)))

    -- the room of the store
    pub pages_left : pages_of (drop gone turn.index.entries) + need_of stored ≤ s.row.size
    pages_left =
        let some = some_shown s turn.index in
        accepted_pages some.store s.row turn.index stored gone some.shown (accepts some.store some.shown some.patterns)

    pub can_count : (vault : InMemory) (t : Listed) (last : LastBlock) (block page : ℕ) (entry : Entry) → entry ≡ entry_of stored block page → IsAt vault at t turn.index last
        → t.row ≡ s.row → may_share 240 old.blocks vault.directory.stores ≡ true → CanBeCounted vault at gone entry
    can_count vault t last block page entry is here row share =
        let range = turn.place.in_range in
        let count = ap (λ r. r.count) row in
        record {
          s = t;
          index = turn.index;
          last = last;
          here = here;
          share = (old.blocks, share);
          together = record {
            first = range.first ∙ sym (ap (λ r. r.first) row);
            count = range.count ∙ sym count;
            size = range.size ∙ sym (ap (λ r. r.size) row);
          };
          leaving = omega (arith, few, range.count);
          pages = (let long = ap (λ (e : Entry). charge_of e.length) is in omega (arith, pages_left, long, range.size));
          order = ends_by_entry is (ends_by stored.time gone turn.index.entries range.placed);
        }
      where
        ends_by_entry : entry ≡ entry_of stored block page → EndsBy (drop gone turn.index.entries) stored.time → EndsBy (drop gone turn.index.entries) entry.stamp
        ends_by_entry e ends = subst (λ (t : ℕ). EndsBy (drop gone turn.index.entries) t) (sym (ap (λ (x : Entry). x.stamp) e)) ends

  -- a store whose last block is full

  module _ (full : is_full s.links turn.last ≡ true) where
    pub free_left : 0 < free_count now.pool
    free_left =
        some_free old.blocks old.directory.directory stored.time at now.directory.directory now.indexes (map used_of now.lasts) now.pool put.memory.walk s turn.was.listed
        turn.last.used turn.index turn.place (none_left s.links turn.last full)

    module _ (block : ℕ) (free : is_free now.pool block ≡ true) where
      abbrev link : Link
      link = link_behind s block

      -- the link fits
      pub link_fits : LinksTo old.blocks now.directory.directory at s link
      link_fits =
          let walk = put.memory.walk in
          let next = now.directory.directory in
          let blocks = old.blocks in
          let kept = listed blocks old.directory.directory stored.time at next now.indexes (map used_of now.lasts) now.pool walk s turn.was.listed in
          let numbers = row_numbers s.row kept.lawful in
          let place = spot next.stores at s turn.here.listed in
          let one_more = full_has_room stored.time s.row s.links turn.index turn.last.used turn.place kept.fitting kept.fits.first (omega (arith, numbers.0, numbers.1))
          (none_left s.links turn.last full) in
          let unlinked = walk.unnamed block free in
          let parts = and_parts (nat_le 7 block && nat_lt block blocks) (is_new block (map block_of (all_links next.stores))) unlinked in
          let below = (data_tests blocks block parts.0).1 in
          let fits : FitsLink link = (omega (arith, below, put.memory.sound.most), omega arith) in
          let behind = links_fit_in blocks next walk.kept walk.share place.front s place.back place.parted link parts.0 parts.1 fits one_more in
          let longer = new_linked blocks next walk.kept walk.share place.front s place.back place.parted link parts.0 parts.1 fits one_more in
          record {
            m = with_stores next (place.front ++ longer ∷ place.back);
            applied = behind.applied;
            share = behind.share;
            there = ap (λ (l : List Listed). slice_get l at) (set_in next.stores place.front s longer place.back at place.parted place.long)
                ∙ got_set next.stores at longer s turn.here.listed;
          }

    -- and the record can be counted behind it
    module _ (block : ℕ) (free : is_free now.pool block ≡ true) (gone : ℕ) (takes : TakesAt now stored at gone) (mid : InMemory)
        (mid_text : List ℕ) (pool : Blocks) (linked : IsLinked (record now { pool = pool }) mid block text mid_text s) where
      abbrev longer : Listed
      longer = record s { links = s.links ++ link_behind s block ∷ [] }

      same_m : (link_fits block free).m ≡ mid.directory.directory
      same_m =
          same_Some (link_fits block free).m mid.directory.directory
          (sym (link_fits block free).applied
          ∙ one_back now.directory.directory mid.directory.directory (Links s.identifier (link_behind s block ∷ [])) linked.makes.made)

      pub longer_at : IsAt mid at longer turn.index turn.last
      longer_at = record {
        listed = ap (λ (d : Directory). slice_get d.stores at) (sym same_m) ∙ (link_fits block free).there;
        indexed = ap (λ (v : InMemory). slice_get v.indexes at) linked.others ∙ turn.here.indexed;
        known = ap (λ (v : InMemory). slice_get v.lasts at) linked.others ∙ turn.here.known;
      }

      pub can_count_linked : (entry : Entry) → entry ≡ entry_of stored block 0 → CanBeCounted mid at gone entry
      can_count_linked entry is =
          can_count gone takes mid longer turn.last block 0 entry is longer_at refl
          (subst (λ (d : Directory). may_share 240 old.blocks d.stores ≡ true) same_m (link_fits block free).share)
