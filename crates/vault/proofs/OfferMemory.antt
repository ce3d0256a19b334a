-- What is in memory goes on while a packet is offered to one store after another.
use Rattle.std.proofs.Common.{◌≡◌, ℕ, zero, suc, ◌+◌, ◌<◌, ◌≤◌, false, List, [], ◌∷◌, ◌++◌, length, map, drop, slice_set, Option, Some, None, refl, sym, ◌∙◌, ap, subst, arith, length-append}
use Rattle.std.specs.Prelude.{slice_get}
use Rattle.std.specs.Option.{option_and_then}
use Rattle.std.proofs.lemmas.Grind.{flat_map-append}
use Rattle.std.proofs.lemmas.Option.{none-some, same_Some}
use Rattle.block_pool.specs.Blocks.{Blocks, IsPool, blocks_of}
use Rattle.image_table.specs.Table.{table_rule}
use Rattle.pst_model.specs.Table.{Store, Stored}
use Rattle.put_laws.specs.Indexes.{index_behind_put}
use Rattle.put_laws.specs.Puts.{Begins, Outcome, Stays, Takes, Tells, changes_of_put, row_behind_put, told_row}
use Rattle.put_laws.proofs.Spots.{get_left}
use Rattle.record_view.specs.declared.link.Link.{Link}
use Rattle.space_packet.specs.Charge.{charge_of}
use Rattle.store_directory.specs.Changes.{Change, Links, Put, apply, apply_all}
use Rattle.store_directory.specs.Directory.{Directory, Listed}
use Rattle.store_directory.specs.Entries.{change_octets, entry_octets}
use Rattle.store_directory.specs.Options.{◌>>=◌}
use Rattle.store_directory.proofs.Folded.{apply_all-append}
use Rattle.store_directory.specs.declared.row.Row.{Row}
use Rattle.store_load.specs.Extents.{last_of}
use Rattle.store_load.specs.InRange.{IsPlaced}
use Rattle.store_policy.specs.Shown.{IsStoreShown}
use Rattle.store_put.specs.Making.{Makes}
use Rattle.store_put.specs.Pools.{IsTaken}
use Rattle.store_put.specs.Ranges.{IsFullBy, IsInPlace}
use Rattle.store_put.specs.Walking.{IsWalking, PlaceAt}
use Rattle.store_put.proofs.EachPlace.{each_at}
use Rattle.store_put.proofs.Walked.{walking_begins_block, walking_stays, walking_takes, walking_tells}
use Rattle.time_index.specs.TimeIndex.{TimeIndex, pages_of}
use Rattle.time_index.specs.declared.entry.Entry.{Entry}
use Rattle.vault.proofs.OfferFresh.{fresh_kept, fresh_set}
use Rattle.vault.proofs.OfferPlaces.{left_next, left_set, map_at, map_set}
use Rattle.vault.proofs.Places.{some_at}
use Rattle.vault.specs.Memory.{InMemory}
use Rattle.vault.specs.Offering.{IsAt, IsCounted, IsLinked, link_behind}
use Rattle.vault.specs.Storing.{IsFreshened, IsOffering, takes, used_of}
use Rattle.vault.specs.declared.last_block.LastBlock.{LastBlock}

-- The store whose turn it is: it is as it was before the packet was offered to any.
pub record HasTurn (old now : InMemory) (stored : Stored) (at : ℕ) : Type 0 where
  pub s : Listed
  pub index : TimeIndex
  pub last : LastBlock
  pub here : IsAt now at s index last
  pub was : IsAt old at s index last
  pub place : IsInPlace stored.time s.row s.links index last.used

pub turn_at : (old now : InMemory) (stored : Stored) (at : ℕ) (changes : List Change) (text : List ℕ) → IsOffering old now stored at changes text
    → at < length now.directory.stores → HasTurn old now stored at
turn_at old now stored at changes text offering within =
    let walk = offering.walk in
    let (s, there) = some_at now.directory.stores at within in
    let own = each_at stored.time now.directory.stores now.indexes (map used_of now.lasts) at s walk.stores there in
    let (last, known, same) = map_at used_of now.lasts at own.used own.in_use in
    record {
      s = s;
      index = own.index;
      last = last;
      here = record { listed = there; indexed = own.here; known = known };
      was = record {
        listed = get_left old.directory.stores now.directory.stores at s (sym walk.left) there;
        indexed = get_left old.indexes now.indexes at own.index (sym offering.indexes) own.here;
        known = get_left old.lasts now.lasts at last (sym offering.lasts) known;
      };
      place = subst (λ (n : ℕ). IsInPlace stored.time s.row s.links own.index n) (sym same) own.place;
    }

pub used_at : (lasts : List LastBlock) (at : ℕ) (last : LastBlock) → slice_get lasts at ≡ Some last → slice_get (map used_of lasts) at ≡ Some last.used
used_at [] at last is = absurd (none-some last is)
used_at (x ∷ lasts) zero last is = let same = same_Some x last is in ap (λ (l : LastBlock). Some l.used) same
used_at (x ∷ lasts) (suc at) last is = used_at lasts at last is

-- one change, and two

pub one_back : (d e : Directory) (change : Change) → apply_all d (change ∷ []) ≡ Some e → apply d change ≡ Some e
one_back d e change is = pick (apply d change) is
  where
    pick : (o : Option Directory) → (o >>= λ (x : Directory). apply_all x []) ≡ Some e → o ≡ Some e
    pick None h = absurd (none-some e h)
    pick (Some x) h = h

pub makes_both : (first second : List Change) (d m e : Directory) (a b c : List ℕ) → Makes first d m a b → Makes second m e b c → Makes (first ++ second) d e a c
makes_both first second d m e a b c one two = record {
  made = apply_all-append d first second ∙ ap (option_and_then (λ (x : Directory). apply_all x second)) one.made ∙ two.made;
  text = two.text ∙ ap (λ (l : List ℕ). l ++ entry_octets second) one.text ∙ regroup a (entry_octets first) (entry_octets second)
      ∙ ap (λ (l : List ℕ). a ++ l) (sym (flat_map-append change_octets first second));
}
  where
    regroup : (xs ys zs : List ℕ) → (xs ++ ys) ++ zs ≡ xs ++ (ys ++ zs)
    regroup [] ys zs = refl
    regroup (x ∷ xs) ys zs = ap (λ (l : List ℕ). x ∷ l) (regroup xs ys zs)

put_short : (row : Row) (outcome : Outcome) → length (entry_octets (changes_of_put row outcome)) ≤ 41
put_short row Stays = omega arith
put_short row Tells = omega arith
put_short row (Takes gone) = omega arith
put_short row (Begins gone link) = omega arith

-- one store more: these are its index, its last block and the pool then
module _ (old now next : InMemory) (stored : Stored) (at : ℕ) (changes : List Change) (text new_text : List ℕ)
    (offering : IsOffering old now stored at changes text) where
  abbrev Walks : Directory → List TimeIndex → (useds : List ℕ) → Blocks → Type 0
  Walks e indexes useds pool = IsWalking old.blocks old.directory.directory stored.time (at + 1) e indexes useds pool

  memory_on : (s : Listed) (outcome : Outcome) (indexes : List TimeIndex) (lasts : List LastBlock) (pool : Blocks)
      → next ≡ record now { directory = next.directory; indexes = indexes; lasts = lasts; pool = pool }
      → Walks next.directory.directory indexes (map used_of lasts) pool
      → Makes (changes_of_put s.row outcome) now.directory.directory next.directory.directory text new_text
      → drop (at + 1) indexes ≡ drop (at + 1) old.indexes → drop (at + 1) lasts ≡ drop (at + 1) old.lasts
      → IsFreshened stored.octets (at + 1) old lasts
      → IsOffering old next stored (at + 1) (changes ++ changes_of_put s.row outcome) new_text
  memory_on s outcome indexes lasts pool others walk makes left_indexes left_lasts freshened =
      let more = changes_of_put s.row outcome in
      let d = next.directory.directory in
      let i : indexes ≡ next.indexes = sym (ap (λ (v : InMemory). v.indexes) others) in
      let l : lasts ≡ next.lasts = sym (ap (λ (v : InMemory). v.lasts) others) in
      let p : pool ≡ next.pool = sym (ap (λ (v : InMemory). v.pool) others) in
      record {
        others = others
            ∙ ap (λ (v : InMemory). record v { directory = next.directory; indexes = indexes; lasts = lasts; pool = pool }) offering.others
            ∙ (λ k. record old { directory = next.directory; indexes = i k; lasts = l k; pool = p k; is_open = false });
        walk =
            subst (λ (x : List TimeIndex). Walks d x (map used_of next.lasts) next.pool) i
            (subst (λ (x : List LastBlock). Walks d indexes (map used_of x) next.pool) l
            (subst (λ (x : Blocks). Walks d indexes (map used_of lasts) x) p walk));
        made = apply_all-append old.directory.directory changes more
            ∙ ap (option_and_then (λ (x : Directory). apply_all x more)) offering.made ∙ makes.made;
        spelled = makes.text ∙ ap (λ (x : List ℕ). x ++ entry_octets more) offering.spelled ∙ sym (flat_map-append change_octets changes more);
        begun =
            let long = ap length makes.text in
            let sum = length-append text (entry_octets more) in
            omega (arith, offering.begun, long, sum);
        short =
            let long = ap length makes.text in
            let sum = length-append text (entry_octets more) in
            let few = put_short s.row outcome in
            omega (arith, offering.short, long, sum, few);
        indexes = ap (drop (at + 1)) (sym i) ∙ left_indexes;
        lasts = ap (drop (at + 1)) (sym l) ∙ left_lasts;
        fresh = offering.fresh;
        freshened = subst (IsFreshened stored.octets (at + 1) old) l freshened;
        sound = offering.sound;
      }

  module _ (s : Listed) (index : TimeIndex) (last : LastBlock) (here : IsAt now at s index last) (was : IsAt old at s index last) where
    -- the store stays as it is
    pub memory_stays : ((store : Store) → IsStoreShown store s index → takes stored.octets store ≡ false)
        → next ≡ record now { directory = next.directory } → Makes [] now.directory.directory next.directory.directory text new_text
        → IsOffering old next stored (at + 1) (changes ++ changes_of_put s.row Stays) new_text
    memory_stays not_taken others makes =
        memory_on s Stays now.indexes now.lasts now.pool others
        (subst (λ (e : Directory). Walks e now.indexes (map used_of now.lasts) now.pool)
        (same_Some now.directory.directory next.directory.directory makes.made)
        (walking_stays old.blocks old.directory.directory stored.time at now.directory.directory now.indexes (map used_of now.lasts) now.pool offering.walk s was.listed))
        makes
        (left_next now.indexes old.indexes at offering.indexes)
        (left_next now.lasts old.lasts at offering.lasts)
        (fresh_kept stored.octets at old now.lasts s index offering.freshened was.listed was.indexed not_taken)

    -- it tells a refusal
    pub memory_tells : ((store : Store) → IsStoreShown store s index → takes stored.octets store ≡ false)
        → next ≡ record now { directory = next.directory }
        → Makes (Put (told_row s.row) ∷ []) now.directory.directory next.directory.directory text new_text
        → IsOffering old next stored (at + 1) (changes ++ changes_of_put s.row Tells) new_text
    memory_tells not_taken others makes =
        memory_on s Tells now.indexes now.lasts now.pool others
        (walking_tells old.blocks old.directory.directory stored.time at now.directory.directory now.indexes (map used_of now.lasts) now.pool offering.walk s was.listed
        next.directory.directory (one_back now.directory.directory next.directory.directory (Put (told_row s.row)) makes.made))
        makes
        (left_next now.indexes old.indexes at offering.indexes)
        (left_next now.lasts old.lasts at offering.lasts)
        (fresh_kept stored.octets at old now.lasts s index offering.freshened was.listed was.indexed not_taken)

    module _ (place : IsInPlace stored.time s.row s.links index last.used) (gone : ℕ) (few : gone ≤ s.row.count) (entry : Entry)
        (placed : IsPlaced table_rule stored.time entry) (room : pages_of (drop gone index.entries) + charge_of entry.length ≤ s.size) where
      abbrev own : PlaceAt stored.time now.indexes (map used_of now.lasts) at s
      own = record { index = index; used = last.used; here = here.indexed; in_use = used_at now.lasts at last here.known; place = place }

      -- it takes the packet into its last block
      pub memory_takes : (link : Link) (links : List Link) → s.links ≡ link ∷ links → last.used + charge_of entry.length ≤ 256
          → entry.block ≡ (last_of link links).block
          → IsCounted now next at gone entry (last.used + charge_of entry.length) text new_text s index
          → IsOffering old next stored (at + 1) (changes ++ changes_of_put s.row (Takes gone)) new_text
      memory_takes link links some fits block counted =
          let d = next.directory.directory in
          let new : LastBlock = record { used = last.used + charge_of entry.length; stale = false } in
          let indexes = slice_set now.indexes at (index_behind_put gone entry index) in
          memory_on s (Takes gone) indexes (slice_set now.lasts at new) now.pool counted.others
          (subst (λ (l : List ℕ). Walks d indexes l now.pool) (sym (map_set used_of now.lasts at new))
          (walking_takes old.blocks old.directory.directory stored.time at now.directory.directory now.indexes (map used_of now.lasts) now.pool offering.walk s was.listed
          own d gone entry link links some few placed room fits block
          (one_back now.directory.directory d (Put (row_behind_put gone s.row)) counted.makes.made)))
          counted.makes
          (left_set now.indexes old.indexes at (index_behind_put gone entry index) offering.indexes)
          (left_set now.lasts old.lasts at new offering.lasts)
          (fresh_set stored.octets at old now.lasts new.used offering.freshened)

      -- or into a new block, which was free
      pub memory_begins : (mid : InMemory) (mid_text : List ℕ) (block : ℕ) (pool : Blocks) → IsFullBy last.used s.links → charge_of entry.length ≤ 256
          → entry.block ≡ block → IsTaken now.pool pool block → IsPool pool → blocks_of pool ≡ old.blocks → old.blocks ≤ 512
          → IsLinked (record now { pool = pool }) mid block text mid_text s
          → IsCounted mid next at gone entry (charge_of entry.length) mid_text new_text s index
          → IsOffering old next stored (at + 1) (changes ++ changes_of_put s.row (Begins gone (link_behind s block))) new_text
      memory_begins mid mid_text block pool full fits same taken lawful many most linked counted =
          let d = next.directory.directory in
          let m = mid.directory.directory in
          let new : LastBlock = record { used = charge_of entry.length; stale = false } in
          let indexes = slice_set now.indexes at (index_behind_put gone entry index) in
          let link = link_behind s block in
          memory_on s (Begins gone link) indexes (slice_set now.lasts at new) pool
          (counted.others
          ∙ ap (λ (v : InMemory). record v {
            directory = next.directory;
            indexes = slice_set v.indexes at (index_behind_put gone entry index);
            lasts = slice_set v.lasts at new;
          }) linked.others)
          (subst (λ (l : List ℕ). Walks d indexes l pool) (sym (map_set used_of now.lasts at new))
          (walking_begins_block old.blocks old.directory.directory stored.time at now.directory.directory now.indexes (map used_of now.lasts) now.pool offering.walk s was.listed
          own m d gone entry link pool full few placed room fits same refl taken lawful many most
          (one_back now.directory.directory m (Links s.identifier (link ∷ [])) linked.makes.made)
          (one_back m d (Put (row_behind_put gone s.row)) counted.makes.made)))
          (makes_both (Links s.identifier (link ∷ []) ∷ []) (Put (row_behind_put gone s.row) ∷ []) now.directory.directory m d text mid_text new_text
          linked.makes counted.makes)
          (left_set now.indexes old.indexes at (index_behind_put gone entry index) offering.indexes)
          (left_set now.lasts old.lasts at new offering.lasts)
          (fresh_set stored.octets at old now.lasts new.used offering.freshened)
