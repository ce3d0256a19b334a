-- The table whose stores were loaded, and what is shown of it.
use Rattle.std.proofs.Common.{◌≡◌, ℕ, ◌+◌, ◌≤◌, ◌&&◌, nat_le, true, false, List, [], ◌∷◌, length, map, Option, Some, None, refl, sym, ◌∙◌, ap, subst, arith}
use Rattle.std.specs.List.{list_all}
use Rattle.std.proofs.lemmas.Bool.{and_parts, false≢true}
use Rattle.std.proofs.lemmas.Bool.Decides.{nat_tests}
use Rattle.std.proofs.lemmas.List.{length-append}
use Rattle.std.proofs.lemmas.Option.{none-some}
use Rattle.block_pool.specs.Blocks.{Blocks, blocks_of}
use Rattle.image_table.proofs.Frames.{kept_store, loads_table, table_loads}
use Rattle.image_table.specs.Table.{store_of, store_with, stored_of, table_by, table_rule, table_with}
use Rattle.pst_model.specs.Laws.{time_of}
use Rattle.pst_model.specs.Table.{Store, Table}
use Rattle.record_view.specs.Records.{Meaning}
use Rattle.store_directory.specs.Checkpoints.{is_lawful}
use Rattle.store_directory.specs.Directory.{Directory, Listed, reserved_by}
use Rattle.store_load.specs.Claims.{all_links, are_apart, blocks_at, is_within, may_share, reserved_at}
use Rattle.store_load.specs.Each.{each}
use Rattle.store_load.specs.Loaded.{index_of, seen, shown}
use Rattle.store_load.proofs.Eachs.{each_more}
use Rattle.store_load.proofs.Indexed.{index_kept}
use Rattle.store_policy.specs.Shown.{AreIndexed, AreShown, IsStoreShown, IsTableShown, length_of, octets_in}
use Rattle.store_policy.specs.declared.view.View.{View}
use Rattle.time_index.specs.TimeIndex.{TimeIndex, stamp_of}
use Rattle.time_index.specs.declared.entry.Entry.{Entry}
use Rattle.vault.specs.Memory.{EachStore, InMemory, IsViewOf}
use Rattle.vault.specs.declared.last_block.LastBlock.{LastBlock}

stamps_seen : (entries : List Entry) → map (λ (p : ℕ × ℕ). p.0) (map seen entries) ≡ map stamp_of entries
stamps_seen [] = refl
stamps_seen (entry ∷ entries) = ap (λ l. entry.stamp ∷ l) (stamps_seen entries)

lengths_seen : (entries : List Entry) → map (λ (p : ℕ × ℕ). p.1) (map seen entries) ≡ map length_of entries
lengths_seen [] = refl
lengths_seen (entry ∷ entries) = ap (λ l. entry.length ∷ l) (lengths_seen entries)

stamps_shown : (records : List Meaning) → map (λ (p : ℕ × ℕ). p.0) (map shown records) ≡ map time_of (map stored_of records)
stamps_shown [] = refl
stamps_shown (meaning ∷ records) = ap (λ l. meaning.stamp ∷ l) (stamps_shown records)

lengths_shown : (records : List Meaning) → map (λ (p : ℕ × ℕ). p.1) (map shown records) ≡ map octets_in (map stored_of records)
lengths_shown [] = refl
lengths_shown (meaning ∷ records) = ap (λ l. length meaning.packet ∷ l) (lengths_shown records)

-- the packets of a store have the times and the lengths of its index
pub are_indexed : (records : List Meaning) (entries : List Entry) → map seen entries ≡ map shown records → AreIndexed (map stored_of records) entries
are_indexed records entries same = record {
  times = sym (stamps_shown records) ∙ ap (map (λ (p : ℕ × ℕ). p.0)) (sym same) ∙ stamps_seen entries;
  lengths = sym (lengths_shown records) ∙ ap (map (λ (p : ℕ × ℕ). p.1)) (sym same) ∙ lengths_seen entries;
}

-- a store has the index of the records that it keeps
abbrev pub HasIndex : (image : ℕ → List ℕ) → (now : ℕ) → Listed → TimeIndex → LastBlock → Type 0
HasIndex image now s index last = index_of table_rule image now s.row s.links ≡ Some index

-- the stores of the table that have these indexes
record Found (image : ℕ → List ℕ) (now : ℕ) (stores : List Listed) (indexes : List TimeIndex) : Type 0 where
  found : List Store
  answers : each (store_of image now) stores ≡ Some found
  are_shown : AreShown found stores indexes

found_all : (image : ℕ → List ℕ) (now : ℕ) (stores : List Listed) (indexes : List TimeIndex) (lasts : List LastBlock)
    → EachStore (HasIndex image now) stores indexes lasts → Found image now stores indexes
found_all image now [] [] [] all = record { found = []; answers = refl; are_shown = tt }
found_all image now [] [] (l ∷ lasts) all = absurd all
found_all image now [] (i ∷ indexes) lasts all = absurd all
found_all image now (x ∷ stores) [] lasts all = absurd all
found_all image now (x ∷ stores) (i ∷ indexes) [] all = absurd all
found_all image now (s ∷ stores) (index ∷ indexes) (l ∷ lasts) all =
    let rest = found_all image now stores indexes lasts all.1 in
    let (records, kept, same) = index_kept table_rule image now s.row s.links index all.0 in
    let here : IsStoreShown (store_with s records) s index = record {
      shown = record {
        identifier = refl;
        kind = refl;
        size = refl;
        channel = refl;
        storage = refl;
        open_on = refl;
        told = refl;
        behind = refl;
        range = refl;
        packets = are_indexed records index.entries same;
      };
      patterns = refl;
    } in
    record {
      found = store_with s records ∷ rest.found;
      answers = each_more (store_of image now) s stores (store_with s records) rest.found (kept_store image now s records kept) rest.answers;
      are_shown = (here, rest.are_shown);
    }

-- the table of a directory, as its indexes show it
pub record Shows (blocks : ℕ) (image : ℕ → List ℕ) (d : Directory) (indexes : List TimeIndex) : Type 0 where
  pub table : Table
  pub by : table_by blocks image d ≡ Some table
  pub now : table.now ≡ d.now
  pub reports : table.reports ≡ d.reports
  pub forward : table.forward ≡ d.forward
  pub stores : AreShown table.stores d.stores indexes

pub shows_table : (blocks : ℕ) (image : ℕ → List ℕ) (d : Directory) (indexes : List TimeIndex) (lasts : List LastBlock)
    → is_lawful d ≡ true → may_share 240 blocks d.stores ≡ true → EachStore (HasIndex image d.now) d.stores indexes lasts
    → Shows blocks image d indexes
shows_table blocks image d indexes lasts lawful share all =
    let stores = found_all image d.now d.stores indexes lasts all in
    record {
      table = table_with d stores.found;
      by = loads_table blocks image d (table_with d stores.found) (record { lawful = lawful; share = share; stores = stores.answers; whole = refl });
      now = refl;
      reports = refl;
      forward = refl;
      stores = stores.are_shown;
    }

-- a view of the memory shows it
pub view_shows : (blocks : ℕ) (image : ℕ → List ℕ) (vault : InMemory) (shows : Shows blocks image vault.directory.directory vault.indexes)
    (view : View) → IsViewOf view vault → IsTableShown shows.table view
view_shows blocks image vault shows view is = record {
  now = shows.now ∙ ap (λ d. d.directory.now) (sym is.directory);
  reports = shows.reports ∙ ap (λ d. d.directory.reports) (sym is.directory);
  forward = shows.forward ∙ ap (λ d. d.directory.forward) (sym is.directory);
  stores =
      subst (λ d. AreShown shows.table.stores d.directory.stores view.indexes.now) (sym is.directory)
      (subst (λ (l : List TimeIndex). AreShown shows.table.stores vault.directory.stores l) (sym is.indexes) shows.stores);
}

-- where its stores may not share the device, or one keeps no records, a directory has no table

pub unshared : (blocks : ℕ) (image : ℕ → List ℕ) (d : Directory) → may_share 240 blocks d.stores ≡ false → table_by blocks image d ≡ None
unshared blocks image d not_so = pick (table_by blocks image d) refl
  where
    pick : (found : Option Table) → table_by blocks image d ≡ found → found ≡ None
    pick None is = refl
    pick (Some table) is = absurd (false≢true (sym not_so ∙ (table_loads blocks image d table is).share))

pub unkept : (blocks : ℕ) (image : ℕ → List ℕ) (d : Directory) → each (store_of image d.now) d.stores ≡ None → table_by blocks image d ≡ None
unkept blocks image d not_so = pick (table_by blocks image d) refl
  where
    pick : (found : Option Table) → table_by blocks image d ≡ found → found ≡ None
    pick None is = refl
    pick (Some table) is = absurd (none-some table.stores (sym not_so ∙ (table_loads blocks image d table is).stores))

-- what the stores reserve, and how many blocks they have

pub same_reserved : (stores : List Listed) → reserved_by stores ≡ reserved_at 240 stores
same_reserved [] = refl
same_reserved (s ∷ stores) = ap (λ (n : ℕ). blocks_at 240 s.size + n) (same_reserved stores)

links_reserved : (stores : List Listed) → list_all (is_within 240) stores ≡ true → length (all_links stores) ≤ reserved_at 240 stores
links_reserved [] all = omega arith
links_reserved (s ∷ stores) all =
    let parts = and_parts (is_within 240 s) (list_all (is_within 240) stores) all in
    let own : length s.links ≤ blocks_at 240 s.size = within_test (length s.links) (blocks_at 240 s.size) parts.0 in
    let rest = links_reserved stores parts.1 in
    let long = length-append s.links (all_links stores) in
    omega (arith, own, rest, long)
  where
    within_test : (a b : ℕ) → nat_le a b ≡ true → a ≤ b
    within_test a b h = grind (arith, nat_tests)

pub shared_parts : (blocks : ℕ) (stores : List Listed) → may_share 240 blocks stores ≡ true
    → (reserved_by stores + 8 ≤ blocks) × (length (all_links stores) + 8 ≤ blocks)
shared_parts blocks stores share =
    let parts = and_parts (nat_le (reserved_at 240 stores + 8) blocks && list_all (is_within 240) stores) (are_apart blocks (all_links stores)) share in
    let (room, within) = and_parts (nat_le (reserved_at 240 stores + 8) blocks) (list_all (is_within 240) stores) parts.0 in
    let fits : reserved_at 240 stores + 8 ≤ blocks = room_test (reserved_at 240 stores + 8) blocks room in
    let few = links_reserved stores within in
    let same = same_reserved stores in
    (omega (arith, fits, same), omega (arith, fits, few))
  where
    room_test : (a b : ℕ) → nat_le a b ≡ true → a ≤ b
    room_test a b h = grind (arith, nat_tests)

-- how many blocks stores have that may share the device of a pool
pub few_links : (pool : Blocks) (wear : List ℕ) (blocks : ℕ) (stores : List Listed) → pool.wear ≡ wear → length wear ≡ blocks
    → may_share 240 (blocks_of pool) stores ≡ true → length (all_links stores) + 8 ≤ blocks
few_links pool wear blocks stores is many share =
    (shared_parts blocks stores (ap (λ n. may_share 240 n stores) (sym (ap length is ∙ many)) ∙ share)).1
