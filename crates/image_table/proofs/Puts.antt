-- The table behind a change of its directory.
use Rattle.std.proofs.Common.{◌≡◌, ℕ, ◌+◌, ◌≤◌, ◌&&◌, nat_le, nat_lt, Bool, true, false, List, [], ◌∷◌, ◌++◌, append-nil, length, map, ◌==◌, eqb-true, drop, Option, Some, None, refl, sym, ◌∙◌, ap, subst, arith}
use Rattle.std.specs.Prelude.{⊤, find, if◌then◌else◌}
use Rattle.std.specs.Option.{option_map}
use Rattle.std.proofs.lemmas.Bool.{and_parts, eq-eqb}
use Rattle.control_defs.specs.Lists.{is_pattern_list}
use Rattle.std.proofs.lemmas.List.{drop-map, map-append}
use Rattle.std.proofs.lemmas.Option.{none-some, same_Some}
use Rattle.space_packet.specs.Charge.{charge_of}
use Rattle.block_pool.specs.Sizes.{blocks_for_size}
use Rattle.chain_log.specs.Pages.{block_octets}
use Rattle.pst_model.specs.Changes.{is_named}
use Rattle.pst_model.specs.Rules.{at_first}
use Rattle.pst_model.specs.Table.{Store, Stored, Table, content_in}
use Rattle.record_view.specs.Records.{Meaning, record_at}
use Rattle.record_view.specs.declared.link.Link.{Link}
use Rattle.store_directory.specs.Changes.{Change, Clock, Links, Put, Swap, apply, change_store, listed_by, may_stand, put_row, with_last, with_links}
use Rattle.store_directory.specs.Checkpoints.{are_lawful, is_lawful}
use Rattle.store_directory.specs.Directory.{Directory, Listed, find_store, put_store, swap_last, trimmed, with_stores}
use Rattle.store_directory.specs.Options.{◌>>=◌}
use Rattle.store_directory.specs.Rows.{between}
use Rattle.store_directory.specs.declared.row.Row.{Row}
use Rattle.store_directory.proofs.Steps.{some_then}
use Rattle.store_load.specs.Claims.{may_share}
use Rattle.store_load.specs.Each.{each}
use Rattle.store_load.specs.Extents.{end_of, extent_to, joined, last_of, pages_in, read_extent}
use Rattle.store_load.specs.Keeping.{Keeps}
use Rattle.store_load.specs.Kept.{kept_of}
use Rattle.store_load.specs.Moving.{GoesOn, IsNext, SpellsLast, used_by}
use Rattle.store_load.proofs.Counting.{kept_parts, parts_kept}
use Rattle.store_load.proofs.Blocks.{begun, swapped_alone}
use Rattle.store_load.proofs.Eachs.{EachIs, each_cons, each_same, given_then}
use Rattle.store_load.proofs.Going as going
use Rattle.store_load.proofs.Moved.{rise_later}
use Rattle.image_table.specs.Going.{Begins, Changes, table_put, with_row}
use Rattle.image_table.specs.Table.{store_of, store_with, stored_of, table_by, table_rule, table_with}
use Rattle.image_table.proofs.Frames.{Loads, kept_store, loads_table, store_kept, table_loads}
use Rattle.image_table.proofs.Stores.{FoundIn, changed_first, content_stored, found_in, put_in, store_keeps}

mapped_then : {A B : Type 0} (f : A → B) (o : Option A) (y : B) → option_map f o ≡ Some y → (x : A) × (o ≡ Some x) × (f x ≡ y)
mapped_then f None y is = absurd (none-some y is)
mapped_then f (Some x) y is = (x, refl, same_Some (f x) y is)

-- the stores behind a row that was put in the place of another one
row_put : (d next : Directory) (row : Row) (s : Listed) → apply d (Put row) ≡ Some next → find_store row.identifier d.stores ≡ Some s
    → next ≡ with_stores d (put_store (listed_by row (Some s)) d.stores)
unfolding apply
row_put d next row s is found =
    let new = listed_by row (find_store row.identifier d.stores) in
    let (stores, put, whole) = mapped_then (with_stores d) (put_row row d.stores) next is in
    let parts = given_then (may_stand new (put_store new d.stores)) (λ (_ : ⊤). Some (put_store new d.stores)) stores put in
    let same : put_store new d.stores ≡ stores = same_Some (put_store new d.stores) stores parts.1 in
    sym whole ∙ ap (with_stores d) (sym same ∙ ap (λ (o : Option Listed). put_store (listed_by row o) d.stores) found)

-- the stores behind a change of one of them
pub record Changed (d next : Directory) (change : Listed → Option Listed) (s : Listed) : Type 0 where
  pub new : Listed
  pub made : change s ≡ Some new
  pub next_is : next ≡ with_stores d (put_store new d.stores)

store_changed : (d next : Directory) (identifier : ℕ) (change : Listed → Option Listed) (s : Listed)
    → option_map (with_stores d) (change_store identifier change d.stores) ≡ Some next
    → find_store identifier d.stores ≡ Some s → Changed d next change s
store_changed d next identifier change s is found =
    let (stores, put, whole) = mapped_then (with_stores d) (change_store identifier change d.stores) next is in
    let (old, there, rest) = some_then (find_store identifier d.stores) (λ (x : Listed). change x >>= λ (y : Listed). Some (put_store y d.stores)) stores put in
    let (y, changed, last) = some_then (change old) (λ (y : Listed). Some (put_store y d.stores)) stores rest in
    let old_is : old ≡ s = same_Some old s (sym there ∙ found) in
    record {
      new = y;
      made = sym (ap change old_is) ∙ changed;
      next_is = sym whole ∙ ap (with_stores d) (sym (same_Some (put_store y d.stores) stores last));
    }

-- at a later time
store_later : (image : ℕ → List ℕ) (now later : ℕ) → now ≤ later → (s : Listed) (store : Store) → store_of image now s ≡ Some store → store_of image later s ≡ Some store
store_later image now later le s store is =
    let (records, kept, whole) = store_kept image now s store is in
    let are = kept_parts table_rule image now s.row s.links records kept in
    kept_store image later s records
    (parts_kept table_rule image later s.row s.links records
    (record {
      begins = are.begins;
      reads = are.reads;
      read = are.read;
      live = are.live;
      filled = are.filled;
      short = are.short;
      rise = rise_later now later 0 records le are.rise;
      fits = are.fits;
    }))
    ∙ ap Some whole

each_any : {X : Type 0} (xs : List X) → EachIs (λ (x : X). Unit {0}) xs
each_any [] = tt
each_any (x ∷ xs) = (tt, each_any xs)

pub clock_goes : (blocks : ℕ) (image : ℕ → List ℕ) (d : Directory) (table : Table) (now reports : ℕ) (next : Directory)
    → table_by blocks image d ≡ Some table → apply d (Clock now reports) ≡ Some next → d.now ≤ now
    → table_by blocks image next ≡ Some (record table { now = now; reports = reports })
unfolding apply is_lawful
clock_goes blocks image d table now reports next held applied le =
    let loads = table_loads blocks image d table held in
    let parts = given_then (nat_lt reports 16384) (λ (_ : ⊤). Some (record d { now = now; reports = reports })) next applied in
    let made : (record d { now = now; reports = reports }) ≡ next = same_Some (record d { now = now; reports = reports }) next parts.1 in
    let lists = and_parts (nat_lt d.reports 16384 && is_pattern_list d.forward) (are_lawful d.stores) loads.lawful in
    let forward = (and_parts (nat_lt d.reports 16384) (is_pattern_list d.forward) lists.0).1 in
    let lawful : is_lawful (record d { now = now; reports = reports }) ≡ true = rw (parts.0, forward, lists.1) refl in
    let stores = each_same (λ (s : Listed). Unit {0}) (store_of image d.now) (store_of image now) (λ s store _ is. store_later image d.now now le s store is)
    d.stores table.stores (each_any d.stores) loads.stores in
    loads_table blocks image next (record table { now = now; reports = reports })
    (record {
      lawful = subst (λ (x : Directory). is_lawful x ≡ true) made lawful;
      share = subst (λ (x : Directory). may_share 240 blocks x.stores ≡ true) made loads.share;
      stores = subst (λ (x : Directory). each (store_of image x.now) x.stores ≡ Some table.stores) made stores;
      whole = sym (ap (λ (x : Directory). table_with x table.stores) made) ∙ ap (λ (t : Table). record t { now = now; reports = reports }) loads.whole;
    })

-- a store of the directory in the place of another one
module _ (blocks : ℕ) (image : ℕ → List ℕ) (d next : Directory) (table : Table) (loads : Loads blocks image d table)
    (new : Listed) (s : Listed) (found : find_store new.identifier d.stores ≡ Some s)
    (next_is : next ≡ with_stores d (put_store new d.stores))
    (lawful : is_lawful next ≡ true) (share : may_share 240 blocks next.stores ≡ true) where
  in_table : FoundIn image d.now new.identifier s table.stores
  in_table = found_in image d.now new.identifier d.stores table.stores s loads.stores found

  store_put : (made : Store) → store_of image d.now new ≡ Some made
      → table_by blocks image next ≡ Some (record table { stores = at_first (is_named new.identifier) (λ _. made) table.stores })
  store_put made is =
      let stores = put_in image d.now new made d.stores table.stores s loads.stores found is in
      loads_table blocks image next (record table { stores = at_first (is_named new.identifier) (λ _. made) table.stores })
      (record {
        lawful = lawful;
        share = share;
        stores = subst (λ (x : Directory). each (store_of image x.now) x.stores ≡ Some (at_first (is_named new.identifier) (λ _. made) table.stores)) (sym next_is) stores;
        whole =
            ap (λ (x : Directory). table_with x (at_first (is_named new.identifier) (λ _. made) table.stores)) next_is
            ∙ ap (λ (t : Table). record t { stores = at_first (is_named new.identifier) (λ _. made) table.stores }) loads.whole;
      })

-- the rows that are put: the packets of the store that is found
module _ (blocks : ℕ) (image : ℕ → List ℕ) (d next : Directory) (table : Table) (row : Row) (s : Listed) (gone : ℕ)
    (changes : Changes blocks image d table (Put row) next) (found : find_store row.identifier d.stores ≡ Some s) where
  abbrev loaded : Loads blocks image d table
  loaded = table_loads blocks image d table changes.loads

  abbrev new : Listed
  new = listed_by row (Some s)

  there : FoundIn image d.now row.identifier s table.stores
  there = found_in image d.now row.identifier d.stores table.stores s loaded.stores found

  -- the store with other records
  made_put : (store : Store) (records more : List Meaning) → store_of image d.now s ≡ Some store
      → find (is_named row.identifier) table.stores ≡ Some store
      → store_with s records ≡ store
      → kept_of table_rule image d.now row (trimmed row.first row.count s.links) ≡ Some (drop gone records ++ more)
      → table_by blocks image next ≡ Some (table_put row gone (map stored_of more) table)
  made_put store records more is in_it whole kept =
      let packets : map stored_of (drop gone records ++ more) ≡ drop gone store.packets ++ map stored_of more =
      map-append stored_of (drop gone records) more
      ∙ ap (λ (l : List Stored). l ++ map stored_of more)
      (sym (drop-map stored_of gone records) ∙ ap (λ (x : Store). drop gone x.packets) whole) in
      let same_patterns : s.patterns ≡ store.patterns = ap (λ (x : Store). x.patterns) whole in
      let change : Store → Store = λ x. with_row row (drop gone x.packets ++ map stored_of more) x in
      let made : store_with new (drop gone records ++ more) ≡ change store = λ i. record {
        identifier = row.identifier;
        kind = row.kind;
        size = row.size;
        channel = row.channel;
        storage = row.storage;
        open_on = row.open_on;
        told = row.told;
        patterns = same_patterns i;
        packets = packets i;
        behind = row.behind;
        range = row.range;
      } in
      store_put blocks image d next table loaded new s found (row_put d next row s changes.applied found) changes.lawful changes.share (change store)
      (kept_store image d.now new (drop gone records ++ more) kept ∙ ap Some made)
      ∙ ap (λ (l : List Store). Some (record table { stores = l })) (changed_first (is_named row.identifier) change store table.stores in_it)

  content_dropped : (store : Store) (records : List Meaning) → store_with s records ≡ store → pages_in (drop gone records) ≡ content_in (drop gone store.packets)
  content_dropped store records whole =
      sym (content_stored (drop gone records)) ∙ ap content_in (sym (drop-map stored_of gone records) ∙ ap (λ (x : Store). drop gone x.packets) whole)

  -- the front goes
  pub front_put : GoesOn gone 0 s.row row
      → ((store : Store) → find (is_named row.identifier) table.stores ≡ Some store → content_in (drop gone store.packets) ≤ row.size)
      → table_by blocks image next ≡ Some (table_put row gone [] table)
  front_put goes fits =
      let (records, kept, whole) = store_kept image d.now s there.store there.is in
      let keeps = store_keeps blocks image d row.identifier d.now s records changes.pages changes.directory loaded.share found kept in
      let room : pages_in (drop gone records) ≤ row.size =
      subst (λ (n : ℕ). n ≤ row.size) (sym (content_dropped there.store records whole)) (fits there.store there.found) in
      made_put there.store records [] there.is there.found whole
      (going.front_gone table_rule blocks image d.now d.now s.row s.links records gone row keeps (omega arith) goes room
      ∙ ap Some (sym (append-nil (drop gone records))))

  -- and one record more
  pub more_put : (link : Link) (links : List Link) → s.links ≡ link ∷ links → GoesOn gone 1 s.row row → (meaning : Meaning)
      → record_at (block_octets image (last_of link links).block) (end_of s.row) (used_by image s.row link links) ≡ Some meaning
      → IsNext table_rule d.now d.now meaning
      → ((store : Store) → find (is_named row.identifier) table.stores ≡ Some store
      → content_in (drop gone store.packets) + charge_of (length meaning.packet) ≤ row.size)
      → table_by blocks image next ≡ Some (table_put row gone (stored_of meaning ∷ []) table)
  more_put link links same goes meaning spelled is fits =
      let (records, kept, whole) = store_kept image d.now s there.store there.is in
      let keeps = store_keeps blocks image d row.identifier d.now s records changes.pages changes.directory loaded.share found kept in
      let keeps_links = subst (λ (l : List Link). Keeps table_rule blocks image d.now s.row l records) same keeps in
      let room : pages_in (drop gone records) + charge_of (length meaning.packet) ≤ row.size =
      subst (λ (n : ℕ). n + charge_of (length meaning.packet) ≤ row.size) (sym (content_dropped there.store records whole)) (fits there.store there.found) in
      made_put there.store records (meaning ∷ []) there.is there.found whole
      (ap (λ (l : List Link). kept_of table_rule image d.now row (trimmed row.first row.count l)) same
      ∙ going.appended table_rule blocks image d.now d.now s.row link links records gone row meaning keeps_links (omega arith) goes spelled is room)

-- the store of an identifier stands under it
found_named : (identifier : ℕ) (stores : List Listed) (s : Listed) → find_store identifier stores ≡ Some s → s.identifier ≡ identifier
found_named identifier [] s is = absurd (none-some s is)
found_named identifier (x ∷ stores) s is = pick (found_named identifier stores s) (identifier == x.identifier) refl is
  where
    pick : (find_store identifier stores ≡ Some s → s.identifier ≡ identifier) → (t : Bool) → (identifier == x.identifier) ≡ t
        → (if t then Some x else find_store identifier stores) ≡ Some s → s.identifier ≡ identifier
    pick deeper true same is = ap (λ (y : Listed). y.identifier) (sym (same_Some x s is)) ∙ sym (eqb-true identifier x.identifier same)
    pick deeper false same is = deeper is

-- the first store that passes a test, as it is
same_first : (test : Store → Bool) (store : Store) (stores : List Store) → find test stores ≡ Some store → at_first test (λ _. store) stores ≡ stores
same_first test store stores is = changed_first test (λ x. x) store stores is ∙ unchanged stores
  where
    unchanged : (stores : List Store) → at_first test (λ x. x) stores ≡ stores
    unchanged [] = refl
    unchanged (x ∷ stores) = pick (unchanged stores) (test x)
      where
        pick : at_first test (λ x. x) stores ≡ stores → (t : Bool) → (if t then x ∷ stores else x ∷ at_first test (λ x. x) stores) ≡ x ∷ stores
        pick deeper true = refl
        pick deeper false = ap (λ (l : List Store). x ∷ l) deeper

-- other links under which a store keeps the same records
module _ (blocks : ℕ) (image : ℕ → List ℕ) (d next : Directory) (table : Table) (identifier : ℕ) (s : Listed) (change : Change)
    (changes : Changes blocks image d table change next) (found : find_store identifier d.stores ≡ Some s) where
  abbrev loaded_now : Loads blocks image d table
  loaded_now = table_loads blocks image d table changes.loads

  table_kept : (links : List Link) → next ≡ with_stores d (put_store (record s { links = links }) d.stores)
      → ((records : List Meaning) → Keeps table_rule blocks image d.now s.row s.links records
      → kept_of table_rule image d.now s.row links ≡ Some records)
      → table_by blocks image next ≡ Some table
  table_kept links next_is kept_too =
      let named_so : s.identifier ≡ identifier = found_named identifier d.stores s found in
      let found_own : find_store s.identifier d.stores ≡ Some s = ap (λ (n : ℕ). find_store n d.stores) named_so ∙ found in
      let here = found_in image d.now s.identifier d.stores table.stores s loaded_now.stores found_own in
      let (records, kept, whole) = store_kept image d.now s here.store here.is in
      let keeps = store_keeps blocks image d s.identifier d.now s records changes.pages changes.directory loaded_now.share found_own kept in
      let new = record s { links = links } in
      store_put blocks image d next table loaded_now new s found_own next_is changes.lawful changes.share here.store
      (kept_store image d.now new records (kept_too records keeps) ∙ ap Some whole)
      ∙ ap (λ (l : List Store). Some (record table { stores = l })) (same_first (is_named s.identifier) here.store table.stores here.found)

-- a link without records behind a full last block
pub block_linked : (blocks : ℕ) (image : ℕ → List ℕ) (d next : Directory) (table : Table) (identifier : ℕ) (s : Listed) (link new : Link) (links : List Link)
    → Changes blocks image d table (Links identifier (new ∷ [])) next → find_store identifier d.stores ≡ Some s → s.links ≡ link ∷ links
    → new.first ≡ end_of s.row → 240 ≤ used_by image s.row link links → table_by blocks image next ≡ Some table
unfolding apply
block_linked blocks image d next table identifier s link new links changes found same first filled =
    let changed = store_changed d next identifier (with_links (new ∷ [])) s changes.applied found in
    let parts = given_then (nat_le 1 (length (new ∷ [])) && nat_le (length (s.links ++ new ∷ [])) (blocks_for_size s.size))
    (λ (_ : ⊤). Some (record s { links = s.links ++ new ∷ [] })) changed.new changed.made in
    let is : (record s { links = s.links ++ new ∷ [] }) ≡ changed.new = same_Some (record s { links = s.links ++ new ∷ [] }) changed.new parts.1 in
    table_kept blocks image d next table identifier s (Links identifier (new ∷ [])) changes found (s.links ++ new ∷ [])
    (changed.next_is ∙ ap (λ (x : Listed). with_stores d (put_store x d.stores)) (sym is))
    (λ records keeps.
    ap (λ (l : List Link). kept_of table_rule image d.now s.row (l ++ new ∷ [])) same
    ∙ going.block_followed table_rule blocks image d.now s.row link links records new
    (subst (λ (l : List Link). Keeps table_rule blocks image d.now s.row l records) same keeps) first filled)

-- the live records of an only block
live_alone : (image : ℕ → List ℕ) (now : ℕ) (row : Row) (link : Link) (records : List Meaning) → kept_of table_rule image now row (link ∷ []) ≡ Some records
    → option_map (drop (between link.first row.first)) (read_extent image (extent_to (end_of row) link)) ≡ Some records
live_alone image now row link records kept =
    let are = kept_parts table_rule image now row (link ∷ []) records kept in
    let (spelled, none, is, nothing, whole) = each_cons (read_extent image) (extent_to (end_of row) link) [] are.reads are.read in
    let empty : [] ≡ none = same_Some [] none nothing in
    let all : spelled ∷ [] ≡ are.reads = ap (λ (l : List (List Meaning)). spelled ∷ l) empty ∙ whole in
    ap (option_map (drop (between link.first row.first))) is
    ∙ ap (λ (l : List Meaning). Some (drop (between link.first row.first) l)) (sym (append-nil spelled))
    ∙ ap (λ (l : List (List Meaning)). Some (drop (between link.first row.first) (joined l))) all
    ∙ ap Some are.live

-- another last block, which spells the live records of the old one
pub block_swapped : (blocks : ℕ) (image : ℕ → List ℕ) (d next : Directory) (table : Table) (identifier : ℕ) (s : Listed) (new : Link)
    → Changes blocks image d table (Swap identifier new) next → find_store identifier d.stores ≡ Some s
    → SpellsLast image s.row s.links new → table_by blocks image next ≡ Some table
unfolding apply
block_swapped blocks image d next table identifier s new changes found spells =
    let changed = store_changed d next identifier (with_last new) s changes.applied found in
    let (swapped, made, last) = some_then (swap_last new s.links) (λ (l : List Link). Some (record s { links = l })) changed.new changed.made in
    let is : (record s { links = swapped }) ≡ changed.new = same_Some (record s { links = swapped }) changed.new last in
    table_kept blocks image d next table identifier s (Swap identifier new) changes found swapped
    (changed.next_is ∙ ap (λ (x : Listed). with_stores d (put_store x d.stores)) (sym is))
    (λ records keeps. by_links s.links refl spells swapped made records keeps)
  where
    by_links : (links : List Link) → s.links ≡ links → SpellsLast image s.row links new → (swapped : List Link) → swap_last new s.links ≡ Some swapped
        → (records : List Meaning) → Keeps table_rule blocks image d.now s.row s.links records
        → kept_of table_rule image d.now s.row swapped ≡ Some records
    by_links [] same spells swapped made records keeps = absurd spells
    by_links (link ∷ []) same spells swapped made records keeps =
        let keeps_one = subst (λ (l : List Link). Keeps table_rule blocks image d.now s.row l records) same keeps in
        let swapped_is : new ∷ [] ≡ swapped = same_Some (new ∷ []) swapped (sym (ap (swap_last new) same) ∙ made) in
        let are = kept_parts table_rule image d.now s.row (link ∷ []) records keeps_one.kept in
        ap (kept_of table_rule image d.now s.row) (sym swapped_is)
        ∙ swapped_alone table_rule blocks image d.now s.row link [] records keeps_one refl new spells.0
        (spells.1 ∙ live_alone image d.now s.row link records keeps_one.kept)
    by_links (link ∷ after ∷ links) same spells swapped made records keeps =
        let keeps_more = subst (λ (l : List Link). Keeps table_rule blocks image d.now s.row l records) same keeps in
        going.block_swapped table_rule blocks image d.now s.row link after links records new swapped keeps_more (sym (ap (swap_last new) same) ∙ made) spells.0 spells.1

-- the store that was put, and another one put in its place
find_put : (new : Listed) (stores : List Listed) → find_store new.identifier (put_store new stores) ≡ Some new
find_put new [] = rw (eq-eqb new.identifier new.identifier refl) refl
find_put new (x ∷ stores) = pick (find_put new stores) (new.identifier == x.identifier) refl
  where
    pick : find_store new.identifier (put_store new stores) ≡ Some new → (t : Bool) → (new.identifier == x.identifier) ≡ t
        → find_store new.identifier (if t then new ∷ stores else x ∷ put_store new stores) ≡ Some new
    pick deeper true same = rw (eq-eqb new.identifier new.identifier refl) refl
    pick deeper false same = rw same deeper

put_put : (old new : Listed) (stores : List Listed) → new.identifier ≡ old.identifier → put_store new (put_store old stores) ≡ put_store new stores
put_put old new [] same = rw (eq-eqb new.identifier old.identifier same) refl
put_put old new (x ∷ stores) same = pick (put_put old new stores same) (old.identifier == x.identifier) refl
  where
    pick : put_store new (put_store old stores) ≡ put_store new stores → (t : Bool) → (old.identifier == x.identifier) ≡ t
        → put_store new (if t then old ∷ stores else x ∷ put_store old stores) ≡ put_store new (x ∷ stores)
    pick deeper true there = rw (eq-eqb new.identifier old.identifier same) (rw (ap (λ (n : ℕ). n == x.identifier) same ∙ there) refl)
    pick deeper false there = rw (ap (λ (n : ℕ). n == x.identifier) same ∙ there) (ap (λ (l : List Listed). x ∷ l) deeper)

-- a store without blocks keeps no record
none_kept : (image : ℕ → List ℕ) (now : ℕ) (row : Row) (records : List Meaning) → kept_of table_rule image now row [] ≡ Some records → records ≡ []
none_kept image now row records kept =
    let are = kept_parts table_rule image now row [] records kept in
    let none : [] ≡ are.reads = same_Some [] are.reads are.read in
    sym are.live ∙ ap joined (sym none)

pub first_put : (blocks : ℕ) (image : ℕ → List ℕ) (d next : Directory) (table : Table) (s : Listed) (link : Link) (row : Row) (meaning : Meaning)
    → Begins blocks image d table link row next → find_store row.identifier d.stores ≡ Some s → s.links ≡ []
    → record_at (block_octets image link.block) row.first 0 ≡ Some meaning
    → meaning.stamp ≤ d.now → length meaning.packet ≤ 4096 → charge_of (length meaning.packet) ≤ row.size
    → table_by blocks image next ≡ Some (table_put row 0 (stored_of meaning ∷ []) table)
unfolding apply
first_put blocks image d next table s link row meaning begins found none spelled stamp largest fits =
    let loads = table_loads blocks image d table begins.loads in
    let changed = store_changed d begins.middle row.identifier (with_links (link ∷ [])) s begins.linked found in
    let parts = given_then (nat_le 1 (length (link ∷ [])) && nat_le (length (s.links ++ link ∷ [])) (blocks_for_size s.size))
    (λ (_ : ⊤). Some (record s { links = s.links ++ link ∷ [] })) changed.new changed.made in
    let is : (record s { links = s.links ++ link ∷ [] }) ≡ changed.new = same_Some (record s { links = s.links ++ link ∷ [] }) changed.new parts.1 in
    let named_so : s.identifier ≡ row.identifier = found_named row.identifier d.stores s found in
    let same_name : row.identifier ≡ changed.new.identifier = sym named_so ∙ ap (λ (x : Listed). x.identifier) is in
    let middle_found : find_store row.identifier begins.middle.stores ≡ Some changed.new =
    ap (λ (x : Directory). find_store row.identifier x.stores) changed.next_is
    ∙ ap (λ (n : ℕ). find_store n (put_store changed.new d.stores)) same_name ∙ find_put changed.new d.stores in
    let new = listed_by row (Some changed.new) in
    let next_is : next ≡ with_stores d (put_store new d.stores) =
    row_put begins.middle next row changed.new begins.put middle_found
    ∙ ap (λ (x : Directory). with_stores x (put_store new x.stores)) changed.next_is
    ∙ ap (with_stores d) (put_put changed.new new d.stores same_name) in
    let here = found_in image d.now row.identifier d.stores table.stores s loads.stores found in
    let (records, kept, whole) = store_kept image d.now s here.store here.is in
    let empty : records ≡ [] = none_kept image d.now s.row records (ap (kept_of table_rule image d.now s.row) (sym none) ∙ kept) in
    let links_are : new.links ≡ link ∷ [] =
    ap (trimmed row.first row.count) (ap (λ (x : Listed). x.links) (sym is) ∙ ap (λ (l : List Link). l ++ link ∷ []) none)
    ∙ ap (λ (n : ℕ). trimmed row.first n (link ∷ [])) begins.count in
    let kept_new : kept_of table_rule image d.now row new.links ≡ Some (meaning ∷ []) =
    ap (kept_of table_rule image d.now row) links_are
    ∙ begun table_rule image d.now row link meaning begins.first begins.count begins.same spelled stamp largest fits in
    let change : Store → Store = λ x. with_row row (drop 0 x.packets ++ stored_of meaning ∷ []) x in
    let no_packets : [] ≡ here.store.packets = ap (map stored_of) (sym empty) ∙ ap (λ (x : Store). x.packets) whole in
    let same_patterns : changed.new.patterns ≡ here.store.patterns = ap (λ (x : Listed). x.patterns) (sym is) ∙ ap (λ (x : Store). x.patterns) whole in
    let made : store_with new (meaning ∷ []) ≡ change here.store = λ i. record {
      identifier = row.identifier;
      kind = row.kind;
      size = row.size;
      channel = row.channel;
      storage = row.storage;
      open_on = row.open_on;
      told = row.told;
      patterns = same_patterns i;
      packets = no_packets i ++ stored_of meaning ∷ [];
      behind = row.behind;
      range = row.range;
    } in
    store_put blocks image d next table loads new s found next_is begins.lawful begins.share (change here.store)
    (kept_store image d.now new (meaning ∷ []) kept_new ∙ ap Some made)
    ∙ ap (λ (l : List Store). Some (record table { stores = l })) (changed_first (is_named row.identifier) change here.store table.stores here.found)
