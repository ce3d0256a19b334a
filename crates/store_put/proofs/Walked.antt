-- What is in memory goes on while a packet is offered to one store after another.
use Rattle.std.proofs.Common.{◌≡◌, ℕ, suc, ◌+◌, ◌-◌, ◌<◌, ◌≤◌, ◌&&◌, nat_le, nat_lt, true, List, [], ◌∷◌, ◌++◌, All, map, drop, slice_set, Some, refl, sym, ◌∙◌, ap, subst, arith}
use Rattle.std.specs.Prelude.{slice_get}
use Rattle.std.proofs.lemmas.Bool.{and_parts}
use Rattle.std.proofs.lemmas.List.{set-set}
use Rattle.std.proofs.lemmas.Option.{same_Some}
use Rattle.block_pool.specs.Blocks.{Blocks, IsPool, blocks_of, free_count, is_free}
use Rattle.record_view.specs.declared.link.Link.{Link}
use Rattle.space_packet.specs.Charge.{charge_of}
use Rattle.store_directory.specs.Changes.{Links, Put, apply, listed_by}
use Rattle.store_directory.specs.Directory.{Directory, FitsLink, IsDirectory, IsListed, Listed, is_new, trimmed, with_stores}
use Rattle.store_directory.specs.Rows.{FitsRow, is_lawful_row}
use Rattle.store_directory.specs.declared.row.Row.{Row}
use Rattle.store_load.specs.Claims.{all_links, block_of, may_share}
use Rattle.store_load.specs.Extents.{end_of, last_of}
use Rattle.store_load.specs.InRange.{IsPlaced}
use Rattle.store_load.specs.Moving.{GoesOn}
use Rattle.store_load.proofs.Rows.{row_numbers}
use Rattle.time_index.specs.TimeIndex.{TimeIndex, pages_of}
use Rattle.time_index.specs.declared.entry.Entry.{Entry}
use Rattle.image_table.specs.Table.{table_rule}
use Rattle.put_laws.specs.Indexes.{index_behind_put}
use Rattle.put_laws.specs.Puts.{is_unnamed, row_behind_put, told_row}
use Rattle.put_laws.proofs.Applies.{links_fit_in, links_name_one, new_linked, new_put, put_fits_in, put_names_none}
use Rattle.put_laws.proofs.Replaced.{listed_in}
use Rattle.put_laws.proofs.Rows.{put_fits, put_lawful, told_fits}
use Rattle.put_laws.proofs.Spots.{Spot, drop_more, get_left, set_in, spot}
use Rattle.put_laws.proofs.Turns.{left_in}
use Rattle.store_put.proofs.EachPlace.{each_at, each_kept, each_later, each_set, links_next, links_within, place_together, reserved_next, reserved_rest, told_place, within_rest}
use Rattle.store_put.proofs.FreeCount.{free_at_least, one_fewer}
use Rattle.store_put.proofs.Going.{begun_in_place, full_has_room, taken_in_place}
use Rattle.store_put.proofs.Made.{count_room}
use Rattle.store_put.proofs.Unlinked.{free_other, got_set, leb-lt, shared_parts, unlinked_on, unlinked_over}
use Rattle.store_put.specs.Pools.{IsTaken, is_unlinked}
use Rattle.store_put.specs.Ranges.{IsFullBy, IsInPlace}
use Rattle.store_put.specs.Walking.{EachInPlace, IsWalking, PlaceAt, most_taken}

one_behind : {X : Type 0} (at : ℕ) (xs : List X) → drop (suc at) xs ≡ drop (at + 1) xs
one_behind at xs = let same : suc at ≡ at + 1 = omega arith in ap (λ (n : ℕ). drop n xs) same

taken_behind : (at : ℕ) (stores : List Listed) → most_taken (suc at) stores ≡ most_taken (at + 1) stores
taken_behind at stores = let same : suc at ≡ at + 1 = omega arith in ap (λ (n : ℕ). most_taken n stores) same

-- a walk begins with the clock
pub walking_begins : (blocks : ℕ) (d : Directory) (time : ℕ) (next : Directory) (indexes : List TimeIndex) (useds : List ℕ) (pool : Blocks)
    → IsDirectory d → IsDirectory next → may_share 240 blocks d.stores ≡ true → next.stores ≡ d.stores → next.now ≡ time → d.now ≤ time
    → EachInPlace d.now d.stores indexes useds → IsPool pool → blocks_of pool ≡ blocks
    → ((block : ℕ) → is_free pool block ≡ is_unlinked blocks d.stores block) → IsWalking blocks d time 0 next indexes useds pool
walking_begins blocks d time next indexes useds pool before kept share same now le each lawful many free = record {
  before = before;
  shared = share;
  kept = kept;
  share = ap (may_share 240 blocks) same ∙ share;
  now = now;
  left = same;
  stores = subst (λ (l : List Listed). EachInPlace time l indexes useds) (sym same) (each_later d.now time d.stores indexes useds le each);
  lawful = lawful;
  pool_blocks = many;
  unnamed_before = λ block is. sym (free block) ∙ is;
  unnamed = λ block is. ap (λ (l : List Listed). is_unlinked blocks l block) same ∙ sym (free block) ∙ is;
  enough =
      let least = free_at_least pool d.stores lawful (λ block is. free block ∙ ap (λ (n : ℕ). is_unlinked n d.stores block) (sym many) ∙ is) in
      omega (arith, least, many);
}

-- the store whose turn it is

module _ (blocks : ℕ) (d : Directory) (time at : ℕ) (next : Directory) (indexes : List TimeIndex) (useds : List ℕ) (pool : Blocks)
    (walking : IsWalking blocks d time at next indexes useds pool) (s : Listed) (is : slice_get d.stores at ≡ Some s) where
  pub here : slice_get next.stores at ≡ Some s
  here = get_left next.stores d.stores at s walking.left is

  abbrev there : Spot next.stores at s
  there = spot next.stores at s here

  pub listed : IsListed s
  listed = listed_in next walking.kept there.front s there.back there.parted

  pub in_place : PlaceAt time indexes useds at s
  in_place = each_at time next.stores indexes useds at s walking.stores here

  -- the others that are left, behind another one in its place
  left_behind : (new : Listed) → drop (suc at) (slice_set next.stores at new) ≡ drop (suc at) d.stores
  left_behind new =
      ap (drop (suc at)) (sym (set_in next.stores there.front s new there.back at there.parted there.long))
      ∙ left_in next.stores there.front s new there.back at there.parted there.long
      ∙ drop_more next.stores d.stores at walking.left

  -- the blocks that may have been taken are no fewer behind it
  more_taken : most_taken at d.stores ≤ most_taken (suc at) d.stores
  more_taken =
      let reserved = reserved_next at d.stores s is in
      let links = links_next at d.stores s is in
      omega (arith, reserved, links, listed.links)

  -- the store stays as it is
  pub walking_stays : IsWalking blocks d time (at + 1) next indexes useds pool
  walking_stays = record {
    before = walking.before;
    shared = walking.shared;
    kept = walking.kept;
    share = walking.share;
    now = walking.now;
    left = sym (one_behind at next.stores) ∙ drop_more next.stores d.stores at walking.left ∙ one_behind at d.stores;
    stores = walking.stores;
    lawful = walking.lawful;
    pool_blocks = walking.pool_blocks;
    unnamed_before = walking.unnamed_before;
    unnamed = walking.unnamed;
    enough = omega (arith, walking.enough, more_taken, taken_behind at d.stores);
  }

  -- a store with a full last block finds a free one
  pub some_free : (used : ℕ) (index : TimeIndex) → IsInPlace time s.row s.links index used → IsFullBy used s.links → 0 < free_count pool
  some_free used index place full =
      let fits = listed.fits in
      let numbers = row_numbers s.row listed.lawful in
      let room = full_has_room time s.row s.links index used place listed.fitting fits.first (omega (arith, numbers.0, numbers.1)) full in
      let reserved = reserved_next at d.stores s is in
      let links = links_next at d.stores s is in
      let parts = shared_parts blocks d.stores walking.shared in
      let rest = links_within (drop (suc at) d.stores) (within_rest (suc at) d.stores parts.1) in
      let sum = reserved_rest (suc at) d.stores in
      omega (arith, room, reserved, links, parts.0, rest, sum, walking.enough)

-- A store in the place of one, in another directory.
pub record Placed (blocks at : ℕ) (d : Directory) (new : Listed) (e : Directory) : Type 0 where
  pub kept : IsDirectory e
  pub share : may_share 240 blocks e.stores ≡ true
  pub now : e.now ≡ d.now
  pub stores : e.stores ≡ slice_set d.stores at new
  pub unnamed : (block : ℕ) → is_unnamed block d ≡ true → is_unnamed block e ≡ true

-- a row that is put
pub put_placed : (blocks at : ℕ) (d e : Directory) (s : Listed) (row : Row) (lawful : is_lawful_row row ≡ true) (fits : FitsRow row)
    → IsDirectory d → may_share 240 blocks d.stores ≡ true → slice_get d.stores at ≡ Some s → row.identifier ≡ s.identifier → row.size ≡ s.size
    → apply d (Put row) ≡ Some e → Placed blocks at d (listed_by row (Some s)) e
put_placed blocks at d e s row lawful fits kept share is same sized applied =
    let place = spot d.stores at s is in
    let behind = put_fits_in blocks d kept share place.front s place.back place.parted row same sized lawful fits in
    let new = new_put blocks d kept share place.front s place.back place.parted row same sized lawful fits in
    let made : with_stores d (place.front ++ new ∷ place.back) ≡ e = same_Some _ e (sym behind.applied ∙ applied) in
    subst (Placed blocks at d new) made (record {
      kept = behind.directory;
      share = behind.share;
      now = refl;
      stores = set_in d.stores place.front s new place.back at place.parted place.long;
      unnamed = put_names_none blocks d kept share place.front s place.back place.parted row same sized lawful fits;
    })

module _ (blocks : ℕ) (d : Directory) (time at : ℕ) (next : Directory) (indexes : List TimeIndex) (useds : List ℕ) (pool : Blocks)
    (walking : IsWalking blocks d time at next indexes useds pool) (s : Listed) (is : slice_get d.stores at ≡ Some s) where
  -- the store is another one, and no block was taken
  pub walking_on : (e : Directory) (new : Listed) (new_indexes : List TimeIndex) (new_useds : List ℕ) → Placed blocks at next new e
      → EachInPlace time (slice_set next.stores at new) new_indexes new_useds → IsWalking blocks d time (at + 1) e new_indexes new_useds pool
  walking_on e new new_indexes new_useds placed each = record {
    before = walking.before;
    shared = walking.shared;
    kept = placed.kept;
    share = placed.share;
    now = placed.now ∙ walking.now;
    left = sym (one_behind at e.stores) ∙ ap (drop (suc at)) placed.stores ∙ left_behind blocks d time at next indexes useds pool walking s is new ∙ one_behind at d.stores;
    stores = subst (λ (l : List Listed). EachInPlace time l new_indexes new_useds) (sym placed.stores) each;
    lawful = walking.lawful;
    pool_blocks = walking.pool_blocks;
    unnamed_before = walking.unnamed_before;
    unnamed = λ block free. unlinked_on blocks next e placed.unnamed block (walking.unnamed block free);
    enough = omega (arith, walking.enough, more_taken blocks d time at next indexes useds pool walking s is, taken_behind at d.stores);
  }

  -- the store tells a refusal
  pub walking_tells : (e : Directory) → apply next (Put (told_row s.row)) ≡ Some e → IsWalking blocks d time (at + 1) e indexes useds pool
  walking_tells e applied =
      let there = here blocks d time at next indexes useds pool walking s is in
      let own = listed blocks d time at next indexes useds pool walking s is in
      let new = listed_by (told_row s.row) (Some s) in
      walking_on e new indexes useds
      (put_placed blocks at next e s (told_row s.row) own.lawful (told_fits s.row own.fits) walking.kept walking.share there refl refl applied)
      (each_kept time next.stores indexes useds at s new walking.stores there (λ index used place. told_place time s.row s.links index used place))

-- a store that takes the packet
module _ (blocks : ℕ) (d : Directory) (time at : ℕ) (next : Directory) (indexes : List TimeIndex) (useds : List ℕ) (pool : Blocks)
    (walking : IsWalking blocks d time at next indexes useds pool) (s : Listed) (is : slice_get d.stores at ≡ Some s)
    (own : PlaceAt time indexes useds at s) where
  row_fits : (gone : ℕ) (need : ℕ) → pages_of (drop gone own.index.entries) + need ≤ s.size → 1 ≤ need → s.row.count - gone + 1 ≤ s.row.size
  row_fits gone need room some =
      count_room s.row own.index gone need (place_together time s.row s.links own.index own.used own.place)
      (let size = own.place.in_range.size in omega (arith, room, size)) some

  -- the store takes the packet into its last block
  pub walking_takes : (e : Directory) (gone : ℕ) (entry : Entry) (link : Link) (links : List Link) → s.links ≡ link ∷ links → gone ≤ s.row.count
      → IsPlaced table_rule time entry → pages_of (drop gone own.index.entries) + charge_of entry.length ≤ s.size
      → own.used + charge_of entry.length ≤ 256 → entry.block ≡ (last_of link links).block → apply next (Put (row_behind_put gone s.row)) ≡ Some e
      → IsWalking blocks d time (at + 1) e (slice_set indexes at (index_behind_put gone entry own.index))
      (slice_set useds at (own.used + charge_of entry.length)) pool
  walking_takes e gone entry link links some few placed room fits last applied =
      let here_is = here blocks d time at next indexes useds pool walking s is in
      let kept = listed blocks d time at next indexes useds pool walking s is in
      let numbers = row_numbers s.row kept.lawful in
      let row = row_behind_put gone s.row in
      let new = listed_by row (Some s) in
      let more = row_fits gone (charge_of entry.length) room (omega arith) in
      let goes : GoesOn gone 1 s.row row = record { few = few; first = refl; count = refl } in
      let place_now : IsInPlace time s.row (link ∷ links) own.index own.used = subst (λ (l : List Link). IsInPlace time s.row l own.index own.used) some own.place in
      let fit_now : All FitsLink (link ∷ links) = subst (All FitsLink) some kept.fitting in
      let next_place =
      taken_in_place time time s.row row own.index own.used gone entry kept.fits.first (omega (arith, numbers.0, numbers.1)) (omega arith) goes refl placed room
      link links place_now fit_now fits last in
      walking_on blocks d time at next indexes useds pool walking s is e new (slice_set indexes at (index_behind_put gone entry own.index)) (slice_set useds at (own.used + charge_of entry.length))
      (put_placed blocks at next e s row (put_lawful s.row gone kept.lawful more) (put_fits s.row gone kept.fits more) walking.kept walking.share here_is refl refl applied)
      (each_set time next.stores indexes useds at s new (index_behind_put gone entry own.index) (own.used + charge_of entry.length) walking.stores here_is
      (subst (λ (l : List Link). IsInPlace time row (trimmed row.first row.count l) (index_behind_put gone entry own.index) (own.used + charge_of entry.length))
      (sym some) next_place))

  -- the store takes the packet into a new block, which was free
  pub walking_begins_block : (m e : Directory) (gone : ℕ) (entry : Entry) (link : Link) (taken : Blocks) → IsFullBy own.used s.links
      → gone ≤ s.row.count → IsPlaced table_rule time entry → pages_of (drop gone own.index.entries) + charge_of entry.length ≤ s.size
      → charge_of entry.length ≤ 256 → entry.block ≡ link.block → link.first ≡ end_of s.row → IsTaken pool taken link.block → IsPool taken
      → blocks_of taken ≡ blocks → blocks ≤ 512 → apply next (Links s.identifier (link ∷ [])) ≡ Some m → apply m (Put (row_behind_put gone s.row)) ≡ Some e
      → IsWalking blocks d time (at + 1) e (slice_set indexes at (index_behind_put gone entry own.index)) (slice_set useds at (charge_of entry.length)) taken
  walking_begins_block m e gone entry link taken full few placed room fits same_block first takes lawful many most linked applied =
      let here_is = here blocks d time at next indexes useds pool walking s is in
      let kept = listed blocks d time at next indexes useds pool walking s is in
      let numbers = row_numbers s.row kept.lawful in
      let row = row_behind_put gone s.row in
      let spot_s = spot next.stores at s here_is in
      let more = row_fits gone (charge_of entry.length) room (omega arith) in
      let goes : GoesOn gone 1 s.row row = record { few = few; first = refl; count = refl } in
      let one_more = full_has_room time s.row s.links own.index own.used own.place kept.fitting kept.fits.first (omega (arith, numbers.0, numbers.1)) full in
      let unlinked = walking.unnamed link.block takes.was_free in
      let parts = and_parts (nat_le 7 link.block && nat_lt link.block blocks) (is_new link.block (map block_of (all_links next.stores))) unlinked in
      let below : link.block < blocks = leb-lt link.block blocks (and_parts (nat_le 7 link.block) (nat_lt link.block blocks) parts.0).1 in
      let fits_link : FitsLink link = (omega (arith, below, most), omega (arith, first)) in
      let behind = links_fit_in blocks next walking.kept walking.share spot_s.front s spot_s.back spot_s.parted link parts.0 parts.1 fits_link one_more in
      let longer = new_linked blocks next walking.kept walking.share spot_s.front s spot_s.back spot_s.parted link parts.0 parts.1 fits_link one_more in
      let new = listed_by row (Some longer) in
      let made : with_stores next (spot_s.front ++ longer ∷ spot_s.back) ≡ m = same_Some _ m (sym behind.applied ∙ linked) in
      let stores_m : m.stores ≡ slice_set next.stores at longer =
      ap (λ (x : Directory). x.stores) (sym made) ∙ set_in next.stores spot_s.front s longer spot_s.back at spot_s.parted spot_s.long in
      let kept_m : IsDirectory m = subst IsDirectory made behind.directory in
      let share_m : may_share 240 blocks m.stores ≡ true = subst (λ (x : Directory). may_share 240 blocks x.stores ≡ true) made behind.share in
      let now_m : m.now ≡ next.now = ap (λ (x : Directory). x.now) (sym made) in
      let there_m : slice_get m.stores at ≡ Some longer =
      ap (λ (l : List Listed). slice_get l at) stores_m ∙ got_set next.stores at longer s here_is in
      let placed_e = put_placed blocks at m e longer row (put_lawful s.row gone kept.lawful more) (put_fits s.row gone kept.fits more) kept_m share_m there_m refl refl applied in
      let stores_e : e.stores ≡ slice_set next.stores at new =
      placed_e.stores ∙ ap (λ (l : List Listed). slice_set l at new) stores_m ∙ set-set next.stores at longer new in
      let next_place =
      begun_in_place time time s.row row own.index own.used gone entry kept.fits.first (omega (arith, numbers.0, numbers.1)) (omega arith) goes refl placed room
      s.links link own.place kept.fitting full first same_block fits in
      let names = links_name_one blocks next walking.kept walking.share spot_s.front s spot_s.back spot_s.parted link parts.0 parts.1 fits_link one_more in
      let other = λ (block : ℕ) (free : is_free taken block ≡ true). free_other pool taken link.block block walking.lawful takes free in
      record {
        before = walking.before;
        shared = walking.shared;
        kept = placed_e.kept;
        share = placed_e.share;
        now = placed_e.now ∙ now_m ∙ walking.now;
        left = sym (one_behind at e.stores) ∙ ap (drop (suc at)) stores_e ∙ left_behind blocks d time at next indexes useds pool walking s is new ∙ one_behind at d.stores;
        stores =
            subst (λ (l : List Listed). EachInPlace time l (slice_set indexes at (index_behind_put gone entry own.index)) (slice_set useds at (charge_of entry.length)))
            (sym stores_e)
            (each_set time next.stores indexes useds at s new (index_behind_put gone entry own.index) (charge_of entry.length) walking.stores here_is next_place);
        lawful = lawful;
        pool_blocks = many;
        unnamed_before = λ block free. walking.unnamed_before block (other block free).0;
        unnamed = λ block free.
            unlinked_on blocks m e placed_e.unnamed block
            (unlinked_over blocks next m block (other block free).1
            (λ was apart. subst (λ (x : Directory). is_unnamed block x ≡ true) made (names block was apart)) (walking.unnamed block (other block free).0));
        enough =
            let fewer = one_fewer pool taken link.block walking.lawful takes in
            let reserved = reserved_next at d.stores s is in
            let links = links_next at d.stores s is in
            omega (arith, walking.enough, fewer, reserved, links, one_more, taken_behind at d.stores);
      }
