-- What is in memory behind the renewal of a last block fits together.
use Rattle.std.proofs.Common.{◌≡◌, ◌≢◌, ℕ, ◌+◌, ◌<◌, ◌≤◌, ◌==◌, ◌&&◌, nat_le, nat_lt, not, Bool, true, false, List, [], ◌∷◌, ◌++◌, All, length, map, get_or, set, slice_set, Some, refl, sym, ◌∙◌, ap, subst, arith, eqb-true, eq-eqb}
use Rattle.std.specs.Prelude.{IfSome, slice_get}
use Rattle.std.specs.List.{list_all}
use Rattle.std.proofs.lemmas.Bool.{and_from, and_parts, false≢true, lt-ltb, le-leb}
use Rattle.std.proofs.lemmas.List.{get_or-set_other, get_or-set_same, length-set}
use Rattle.std.proofs.lemmas.List.Elements.{All-cons, All-head, All-nil, All-tail}
use Rattle.std.proofs.lemmas.Option.{none-some, same_Some, slice_get-get_or}
use Rattle.block_pool.specs.Blocks.{Blocks, IsPool, blocks_of, free_count, is_free, is_ready}
use Rattle.block_pool.specs.Sizes.{blocks_for_size}
use Rattle.control_defs.specs.declared.patterns.Pattern.{Pattern}
use Rattle.image_table.proofs.Frames.{data_links, data_tests, shared_links}
use Rattle.meta_journal.specs.Standing as journals
use Rattle.put_laws.proofs.Replaced.{distinct_in, kept_in}
use Rattle.put_laws.proofs.Spots.{Spot, listed_here, put_here, set_in, spot}
use Rattle.record_view.specs.declared.link.Link.{Link}
use Rattle.store_directory.proofs.Lawful.{lawful-from_kept}
use Rattle.store_directory.proofs.Steps.{some_then}
use Rattle.store_directory.specs.Changes.{Swap, apply}
use Rattle.store_directory.specs.Checkpoints.{is_lawful}
use Rattle.store_directory.specs.Directory.{Directory, FitsLink, IsDirectory, IsListed, Listed, find_store, is_new, put_store, reserved_by, swap_last, with_stores}
use Rattle.store_directory.specs.Kept.{Kept}
use Rattle.store_directory.specs.declared.row.Row.{Row}
use Rattle.store_load.proofs.Rows.{row_numbers}
use Rattle.store_load.specs.Claims.{all_links, block_of, is_data, may_share}
use Rattle.store_load.specs.Extents.{last_of}
use Rattle.store_put.proofs.FreeCount.{free_at_least}
use Rattle.store_write.proofs.Shared.{swapped_named, swapped_share}
use Rattle.store_write.specs.Renewed.{AreNamed, first_in_last, last_entries, renewed_index, renewed_link}
use Rattle.time_index.specs.TimeIndex.{TimeIndex, pages_of}
use Rattle.vault.proofs.EachStores.{as_many_indexes}
use Rattle.vault.proofs.Loads.{all_at}
use Rattle.vault.proofs.FreeBlocks.{new_each}
use Rattle.vault.proofs.Places.{each_at, of_some, some_at}
use Rattle.vault.proofs.RenewedPlaces.{can_swap, renewed_in_place}
use Rattle.vault.proofs.ReplacedStores.{each_here, each_replaced}
use Rattle.vault.proofs.Tables.{shared_parts}
use Rattle.vault.specs.Memory.{EachStore, InMemory, IsSound, IsSoundStore, has_link, is_unlinked}
use Rattle.vault.specs.Renewing.{last_block}
use Rattle.vault.specs.declared.last_block.LastBlock.{LastBlock}

-- another last link, among as many
swapped_long : (new : Link) (links swapped : List Link) → swap_last new links ≡ Some swapped → length swapped ≡ length links
swapped_long new [] swapped made = absurd (none-some swapped made)
swapped_long new (link ∷ []) swapped made = ap length (sym (same_Some (new ∷ []) swapped made))
swapped_long new (link ∷ next ∷ links) swapped made =
    let (deeper, inner, last) = some_then (swap_last new (next ∷ links)) (λ (l : List Link). Some (link ∷ l)) swapped made in
    let long = swapped_long new (next ∷ links) deeper inner in
    ap length (sym (same_Some (link ∷ deeper) swapped last)) ∙ omega (arith, long)

swapped_fit : (new : Link) (links swapped : List Link) → swap_last new links ≡ Some swapped → FitsLink new → All FitsLink links → All FitsLink swapped
swapped_fit new [] swapped made fits all = absurd (none-some swapped made)
swapped_fit new (link ∷ []) swapped made fits all =
    subst (All FitsLink) (same_Some (new ∷ []) swapped made) (All-cons FitsLink new [] fits (All-nil FitsLink))
swapped_fit new (link ∷ next ∷ links) swapped made fits all =
    let (deeper, inner, last) = some_then (swap_last new (next ∷ links)) (λ (l : List Link). Some (link ∷ l)) swapped made in
    subst (All FitsLink) (same_Some (link ∷ deeper) swapped last)
    (All-cons FitsLink link deeper (All-head FitsLink link (next ∷ links) all)
    (swapped_fit new (next ∷ links) deeper inner fits (All-tail FitsLink link (next ∷ links) all)))

last_fits : (link : Link) (links : List Link) → All FitsLink (link ∷ links) → (last_of link links).first < 4294967296
last_fits link [] all = (All-head FitsLink link [] all).1
last_fits link (next ∷ links) all = last_fits next links (All-tail FitsLink link (next ∷ links) all)

last_own : (blocks : ℕ) (links : List Link) → has_link links ≡ true → list_all (is_data blocks) links ≡ true
    → (7 ≤ last_block links) × (last_block links < blocks)
last_own blocks [] has own = absurd (false≢true has)
last_own blocks (link ∷ []) has own = data_tests blocks link.block (and_parts (is_data blocks link) true own).0
last_own blocks (link ∷ next ∷ links) has own =
    last_own blocks (next ∷ links) refl (and_parts (is_data blocks link) (list_all (is_data blocks) (next ∷ links)) own).1

differ : (a b : ℕ) → (a == b) ≡ false → a ≢ b
differ a b apart equal = false≢true (sym apart ∙ eq-eqb a b equal)

and_false : (a b : Bool) → b ≡ false → (a && b) ≡ false
and_false true b h = h
and_false false b h = refl

not_itself : (n : ℕ) → not (n == n) ≡ true → ⊥
not_itself n h = false≢true (sym (ap not (eq-eqb n n refl)) ∙ h)

-- a block that was free and ready, and is not this one
pub record WasReady (pool : Blocks) (fresh block : ℕ) : Type 0 where
  pub was_free : is_free pool block ≡ true
  pub was_ready : is_ready pool block ≡ true
  pub apart : (block == fresh) ≡ false

-- what is known of the store at a place
pub record IsStoreAt (vault : InMemory) (at : ℕ) (s : Listed) (index : TimeIndex) (last : LastBlock) : Type 0 where
  pub there : slice_get vault.directory.stores at ≡ Some s
  pub indexed : slice_get vault.indexes at ≡ Some index
  pub lasting : slice_get vault.lasts at ≡ Some last
  pub is_sound : IsSoundStore vault.directory.now s index last
  pub listed : IsListed s
  pub size : s.size ≤ 100000
  pub few : s.row.count ≤ 100000

pub store_at : (vault : InMemory) (at : ℕ) (s : Listed) → IsSound vault → slice_get vault.directory.stores at ≡ Some s
    → (index : TimeIndex) × (last : LastBlock) × IsStoreAt vault at s index last
store_at vault at s sound is =
    let here = each_here (IsSoundStore vault.directory.now) vault.directory.stores vault.indexes vault.lasts at s sound.stores is in
    let listed = all_at IsListed vault.directory.stores at s sound.kept.stores.each is in
    let numbers = row_numbers s.row listed.lawful in (
      here.index,
      here.last,
      record { there = is; indexed = here.indexed; lasting = here.lasting; is_sound = here.is; listed = listed; size = numbers.0; few = omega (arith, numbers) },
    )

-- the same, by the index
pub store_here : (vault : InMemory) (at : ℕ) (s : Listed) (index : TimeIndex) → IsSound vault → slice_get vault.directory.stores at ≡ Some s
    → slice_get vault.indexes at ≡ Some index → (last : LastBlock) × IsStoreAt vault at s index last
store_here vault at s index sound is indexed =
    let (found, last, own) = store_at vault at s sound is in
    let same : found ≡ index = same_Some found index (sym own.indexed ∙ indexed) in
    (last, subst (λ (i : TimeIndex). IsStoreAt vault at s i last) same own)

-- a store whose row and links were read
pub read_store : (stores : List Listed) (at : ℕ) (row : Row) (links : List Link) → at < length stores → IfSome (slice_get stores at) (λ s. row ≡ s.row)
    → IfSome (slice_get stores at) (λ s. links ≡ s.links)
    → (patterns : List Pattern) × (slice_get stores at ≡ Some (record { row = row; patterns = patterns; links = links }))
read_store stores at row links within row_is links_are =
    let (s, there) = some_at stores at within in
    let same_row : row ≡ s.row = of_some (λ (s : Listed). row ≡ s.row) (slice_get stores at) s row_is there in
    let same_links : links ≡ s.links = of_some (λ (s : Listed). links ≡ s.links) (slice_get stores at) s links_are there in
    (s.patterns, there ∙ (λ i. Some (record s { row = sym same_row i; links = sym same_links i })))

pub got_read : (indexes : List TimeIndex) (at : ℕ) (index : TimeIndex) → at < length indexes → index ≡ get_or indexes at index
    → slice_get indexes at ≡ Some index
got_read indexes at index within is = slice_get-get_or indexes at index within ∙ ap Some (sym is)

pub some_links : (links : List Link) → has_link links ≡ true → 1 ≤ length links
some_links [] has = absurd (false≢true has)
some_links (link ∷ links) has = omega arith

-- no free block is one of a store's
pub free_apart : (vault : InMemory) (at : ℕ) (s : Listed) (block : ℕ) → IsSound vault → slice_get vault.directory.stores at ≡ Some s
    → is_free vault.pool block ≡ true → is_new block (map block_of s.links) ≡ true
free_apart vault at s block sound there free =
    let new = (and_parts (nat_le 7 block && nat_lt block vault.blocks) (is_new block (map block_of (all_links vault.directory.stores))) (sym (sound.free block) ∙ free)).1 in
    each_at (λ (s : Listed). is_new block (map block_of s.links) ≡ true) vault.directory.stores at s (new_each block vault.directory.stores new) there

-- some block is free
pub some_free : (vault : InMemory) → IsSound vault → IsPool vault.pool → 0 < free_count vault.pool
some_free vault sound lawful =
    let stores = vault.directory.stores in
    let least = free_at_least vault.pool stores lawful
    (λ block is. sound.free block ∙ ap (λ (n : ℕ). nat_le 7 block && nat_lt block n && is_new block (map block_of (all_links stores))) (sym sound.pool_blocks) ∙ is) in
    let most = (shared_parts vault.blocks stores sound.share).1 in
    let many = sound.pool_blocks in
    omega (arith, least, most, many)

named_last : (link : Link) (links : List Link) → is_new (last_of link links).block (map block_of (link ∷ links)) ≡ true → ⊥
named_last link [] new = not_itself link.block (and_parts (not (link.block == link.block)) true new).0
named_last link (next ∷ links) new =
    named_last next links (and_parts (not ((last_of next links).block == link.block)) (is_new (last_of next links).block (map block_of (next ∷ links))) new).1

module _ (vault : InMemory) (sound : IsSound vault) (at : ℕ) (s : Listed) (index : TimeIndex) (last : LastBlock) (own : IsStoreAt vault at s index last)
    (linked : has_link s.links ≡ true) (fresh : ℕ) (free : is_free vault.pool fresh ≡ true) where
  abbrev d : Directory
  d = vault.directory.directory

  abbrev pub new : Link
  new = renewed_link s.row s.links fresh

  abbrev pub swapped : List Link
  swapped = (can_swap new s.links linked).0

  pub made : swap_last new s.links ≡ Some swapped
  made = (can_swap new s.links linked).1

  abbrev pub renewed_store : Listed
  renewed_store = record s { links = swapped }

  abbrev pub next_stores : List Listed
  next_stores = slice_set d.stores at renewed_store

  abbrev pub next : Directory
  next = with_stores d next_stores

  -- the fresh block
  pub unlinked : (is_data vault.blocks new ≡ true) × (is_new fresh (map block_of (all_links d.stores)) ≡ true)
  unlinked = and_parts (nat_le 7 fresh && nat_lt fresh vault.blocks) (is_new fresh (map block_of (all_links d.stores))) (sym (sound.free fresh) ∙ free)

  pub fresh_fits : FitsLink new
  fresh_fits =
      let within = data_tests vault.blocks fresh unlinked.0 in
      let most = sound.most in
      (omega (arith, within, most), first_low s.row.first s.links own.listed.fits.first own.listed.fitting)
    where
      first_low : (n : ℕ) (links : List Link) → s.row.first < 4294967296 → All FitsLink links → first_in_last s.row links < 4294967296
      first_low n [] low all = low
      first_low n (link ∷ []) low all = low
      first_low n (link ∷ next ∷ links) low all = last_fits next links (All-tail FitsLink link (next ∷ links) all)

  -- the store among the others

  abbrev parts : Spot d.stores at s
  parts = spot d.stores at s own.there

  pub found : find_store s.identifier d.stores ≡ Some s
  found = ap (find_store s.identifier) parts.parted ∙ listed_here s parts.back parts.front (distinct_in d sound.kept parts.front s parts.back parts.parted)

  in_place_of : parts.front ++ renewed_store ∷ parts.back ≡ next_stores
  in_place_of = set_in d.stores parts.front s renewed_store parts.back at parts.parted parts.long

  put : put_store renewed_store d.stores ≡ next_stores
  put =
      ap (put_store renewed_store) parts.parted
      ∙ put_here s parts.back renewed_store refl parts.front (distinct_in d sound.kept parts.front s parts.back parts.parted)
      ∙ in_place_of

  pub applied : apply d (Swap s.identifier new) ≡ Some next
  unfolding apply
  applied = rw found (rw made (ap (λ (l : List Listed). Some (with_stores d l)) put))

  listed_now : IsListed renewed_store
  listed_now =
      let long = swapped_long new s.links swapped made in
      let within = own.listed.links in
      record {
        lawful = own.listed.lawful;
        fits = own.listed.fits;
        patterns = own.listed.patterns;
        links = subst (λ (n : ℕ). n ≤ blocks_for_size s.size) (sym long) within;
        fitting = swapped_fit new s.links swapped made fresh_fits own.listed.fitting;
      }

  pub directory_now : IsDirectory next
  directory_now =
      subst (λ (l : List Listed). IsDirectory (with_stores d l)) in_place_of
      (kept_in d sound.kept parts.front s parts.back parts.parted renewed_store refl refl listed_now)

  pub lawful_now : is_lawful next ≡ true
  lawful_now = lawful-from_kept next directory_now

  pub share_now : may_share 240 vault.blocks next_stores ≡ true
  share_now =
      subst (λ (l : List Listed). may_share 240 vault.blocks l ≡ true) put
      (swapped_share 240 vault.blocks d.stores s new swapped sound.share found made unlinked.0 unlinked.1)

  pub in_place_now : IsSoundStore d.now renewed_store (renewed_index s.row s.links fresh index)
      (record { used = pages_of (last_entries s.row s.links index); stale = false })
  in_place_now =
      let place = renewed_in_place d.now s.row index last.used fresh own.listed.fits.first own.few s.links swapped own.listed.fitting own.is_sound.in_place made in
      let range = place.in_range in
      record { together = record { first = range.first; count = range.count; size = range.size }; in_place = place }

  pub named : AreNamed (last_block s.links) fresh (all_links d.stores) (all_links next_stores)
  named =
      subst (λ (l : List Listed). AreNamed (last_block s.links) fresh (all_links d.stores) (all_links l)) put (by_links s.links refl)
    where
      by_links : (links : List Link) → s.links ≡ links
          → AreNamed (last_block links) fresh (all_links d.stores) (all_links (put_store renewed_store d.stores))
      by_links [] is = absurd (false≢true (ap has_link (sym is) ∙ linked))
      by_links (link ∷ links) is =
          swapped_named 240 vault.blocks d.stores s link links new swapped sound.share found is made unlinked.1

  -- which blocks are free, and which of them are ready

  pub old_data : (7 ≤ last_block s.links) × (last_block s.links < vault.blocks)
  old_data =
      last_own vault.blocks s.links linked
      (each_at (λ (s : Listed). list_all (is_data vault.blocks) s.links ≡ true) d.stores at s
      (data_links vault.blocks d.stores (shared_links vault.blocks d.stores sound.share)) own.there)

  pub apart : (fresh == last_block s.links) ≡ false
  apart = pick (fresh == last_block s.links) refl
    where
      pick : (b : Bool) → (fresh == last_block s.links) ≡ b → b ≡ false
      pick false is = refl
      pick true is =
          absurd (false≢true
          (sym named.taken
          ∙ ap (λ (n : ℕ). is_new n (map block_of (all_links next_stores))) (eqb-true fresh (last_block s.links) is)
          ∙ named.given))

  -- the old block is not free while the fresh one is taken
  pub old_taken : (pool : Blocks) → pool.free ≡ set vault.pool.free fresh false → is_free pool (last_block s.links) ≡ false
  old_taken pool taken =
      ap (λ (l : List Bool). get_or l (last_block s.links) false) taken
      ∙ get_or-set_other vault.pool.free fresh (last_block s.links) false false (λ equal. false≢true (sym apart ∙ eq-eqb fresh (last_block s.links) (sym equal)))
      ∙ not_free (is_free vault.pool (last_block s.links)) refl
    where
      not_free : (b : Bool) → is_free vault.pool (last_block s.links) ≡ b → b ≡ false
      not_free false is = refl
      not_free true is = absurd (by_links s.links refl)
        where
          by_links : (links : List Link) → s.links ≡ links → ⊥
          by_links [] none = false≢true (ap has_link (sym none) ∙ linked)
          by_links (link ∷ links) some =
              named_last link links
              (subst (λ (l : List Link). is_new (last_block l) (map block_of l) ≡ true) some (free_apart vault at s (last_block s.links) sound own.there is))

  module _ (pool : Blocks) (was : IsPool vault.pool)
      (freed : pool.free ≡ set (set vault.pool.free fresh false) (last_block s.links) true)
      (readied : pool.ready ≡ set (set vault.pool.ready fresh false) (last_block s.links) false) where
    abbrev old : ℕ
    old = last_block s.links

    old_low : old < blocks_of vault.pool
    old_low = let many = sound.pool_blocks in omega (arith, many, old_data.1)

    fresh_low : fresh < blocks_of vault.pool
    fresh_low = let many = sound.pool_blocks in let within = (data_tests vault.blocks fresh unlinked.0).1 in omega (arith, many, within)

    old_free : is_free pool old ≡ true
    old_free =
        let long = length-set vault.pool.free fresh false in
        let marks = was.free_marks in
        ap (λ (l : List Bool). get_or l old false) freed
        ∙ get_or-set_same (set vault.pool.free fresh false) old true false (omega (arith, old_low, long, marks))

    old_unready : is_ready pool old ≡ false
    old_unready =
        let long = length-set vault.pool.ready fresh false in
        let marks = was.ready_marks in
        ap (λ (l : List Bool). get_or l old false) readied
        ∙ get_or-set_same (set vault.pool.ready fresh false) old false false (omega (arith, old_low, long, marks))

    fresh_taken : is_free pool fresh ≡ false
    fresh_taken =
        let marks = was.free_marks in
        ap (λ (l : List Bool). get_or l fresh false) freed
        ∙ get_or-set_other (set vault.pool.free fresh false) old fresh true false (differ fresh old apart)
        ∙ get_or-set_same vault.pool.free fresh false false (omega (arith, fresh_low, marks))

    other_free : (block : ℕ) → (block == old) ≡ false → (block == fresh) ≡ false → is_free pool block ≡ is_free vault.pool block
    other_free block other another =
        ap (λ (l : List Bool). get_or l block false) freed
        ∙ get_or-set_other (set vault.pool.free fresh false) old block true false (differ block old other)
        ∙ get_or-set_other vault.pool.free fresh block false false (differ block fresh another)

    other_ready : (block : ℕ) → (block == old) ≡ false → (block == fresh) ≡ false → is_ready pool block ≡ is_ready vault.pool block
    other_ready block other another =
        ap (λ (l : List Bool). get_or l block false) readied
        ∙ get_or-set_other (set vault.pool.ready fresh false) old block false false (differ block old other)
        ∙ get_or-set_other vault.pool.ready fresh block false false (differ block fresh another)

    free_now : (block : ℕ) → is_free pool block ≡ is_unlinked vault.blocks next_stores block
    free_now block = pick (block == old) (block == fresh) refl refl
      where
        pick : (a b : Bool) → (block == old) ≡ a → (block == fresh) ≡ b → is_free pool block ≡ is_unlinked vault.blocks next_stores block
        pick true b is same =
            let equal = eqb-true block old is in
            ap (is_free pool) equal ∙ old_free
            ∙ sym (and_from (nat_le 7 old && nat_lt old vault.blocks) (is_new old (map block_of (all_links next_stores)))
            (and_from (nat_le 7 old) (nat_lt old vault.blocks) (le-leb 7 old old_data.0) (lt-ltb old vault.blocks old_data.1)) named.given)
            ∙ ap (is_unlinked vault.blocks next_stores) (sym equal)
        pick false true is same =
            let equal = eqb-true block fresh same in
            ap (is_free pool) equal ∙ fresh_taken
            ∙ sym (and_false (nat_le 7 fresh && nat_lt fresh vault.blocks) (is_new fresh (map block_of (all_links next_stores))) named.taken)
            ∙ ap (is_unlinked vault.blocks next_stores) (sym equal)
        pick false false is same =
            other_free block is same ∙ sound.free block
            ∙ ap (λ (b : Bool). nat_le 7 block && nat_lt block vault.blocks && b) (sym (named.others block is same))

    -- a block that is free and ready was so before
    pub ready_before : (block : ℕ) → is_free pool block ≡ true → is_ready pool block ≡ true → WasReady vault.pool fresh block
    ready_before block free_too ready = pick (block == old) (block == fresh) refl refl
      where
        pick : (a b : Bool) → (block == old) ≡ a → (block == fresh) ≡ b → WasReady vault.pool fresh block
        pick true b is same = absurd (false≢true (sym old_unready ∙ ap (is_ready pool) (sym (eqb-true block old is)) ∙ ready))
        pick false true is same = absurd (false≢true (sym fresh_taken ∙ ap (is_free pool) (sym (eqb-true block fresh same)) ∙ free_too))
        pick false false is same =
            record { was_free = sym (other_free block is same) ∙ free_too; was_ready = sym (other_ready block is same) ∙ ready; apart = same }

    -- what is in memory then
    pub sound_renewed : (kept : Kept) (journal : journals.Kept) → kept.directory ≡ next → blocks_of pool ≡ blocks_of vault.pool
        → IsSound (record vault {
          directory = kept;
          indexes = slice_set vault.indexes at (renewed_index s.row s.links fresh index);
          lasts = slice_set vault.lasts at (record { used = pages_of (last_entries s.row s.links index); stale = false });
          pool = pool;
          journal = journal;
        })
    sound_renewed kept journal is many =
        let indexes = slice_set vault.indexes at (renewed_index s.row s.links fresh index) in
        let lasts = slice_set vault.lasts at (record { used = pages_of (last_entries s.row s.links index); stale = false }) in
        let P = IsSoundStore d.now in
        let stores : EachStore P next_stores indexes lasts =
        each_replaced P d.stores vault.indexes vault.lasts at s renewed_store (renewed_index s.row s.links fresh index)
        (record { used = pages_of (last_entries s.row s.links index); stale = false }) sound.stores own.there in_place_now in
        record {
          least = sound.least;
          most = sound.most;
          kept = subst IsDirectory (sym is) directory_now;
          stores = subst (λ (e : Directory). EachStore (IsSoundStore e.now) e.stores indexes lasts) (sym is) stores;
          as_many =
              subst (λ (e : Directory). length indexes ≡ length e.stores) (sym is) (as_many_indexes P next_stores indexes lasts stores);
          share = subst (λ (e : Directory). may_share 240 vault.blocks e.stores ≡ true) (sym is) share_now;
          reserved =
              subst (λ (e : Directory). reserved_by e.stores + 8 ≤ vault.blocks) (sym is) (shared_parts vault.blocks next_stores share_now).0;
          pool_blocks = many ∙ sound.pool_blocks;
          free = λ block. subst (λ (e : Directory). is_free pool block ≡ is_unlinked vault.blocks e.stores block) (sym is) (free_now block);
        }
