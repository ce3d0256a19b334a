-- A table is read from its frame alone.
use Rattle.std.proofs.Common.{◌≡◌, ℕ, ◌+◌, ◌<◌, ◌≤◌, ◌&&◌, true, nat_le, nat_lt, List, [], ◌∷◌, All, map, Option, Some, None, refl, sym, ◌∙◌, ap, arith}
use Rattle.std.specs.Prelude.{⊤}
use Rattle.std.specs.List.{list_all}
use Rattle.std.specs.Option.{option_map}
use Rattle.std.proofs.lemmas.Bool.{and_parts}
use Rattle.std.proofs.lemmas.Bool.Decides.{nat_tests}
use Rattle.std.proofs.lemmas.List.Elements.{All-cons, All-nil}
use Rattle.std.proofs.lemmas.List.Folds.{list_all-append}
use Rattle.std.proofs.lemmas.Option.{none-some, same_Some}
use Rattle.board.specs.Flash.{IsContent}
use Rattle.meta_journal.specs.Directories.{directory_of}
use Rattle.meta_journal.proofs.Frame as journal_frame
use Rattle.pst_model.specs.Table.{Store, Table}
use Rattle.record_view.specs.Records.{Meaning}
use Rattle.record_view.specs.declared.link.Link.{Link}
use Rattle.store_directory.specs.Checkpoints.{is_lawful}
use Rattle.store_directory.specs.Directory.{Directory, Listed, are_distinct}
use Rattle.store_directory.specs.Options.{◌>>=◌}
use Rattle.store_directory.proofs.Steps.{some_then}
use Rattle.store_load.specs.Claims.{all_links, are_apart, block_of, is_data, is_within, may_share, reserved_at}
use Rattle.store_load.specs.Each.{each}
use Rattle.store_load.specs.Frame.{in_store}
use Rattle.store_load.specs.Keeping.{IsInDevice}
use Rattle.store_load.specs.Kept.{kept_of}
use Rattle.store_load.proofs.Eachs.{EachIs, all_of_any, each_both, each_same, given_then}
use Rattle.store_load.proofs.Frames.{answered, any_same, kept_stays, pages_stay}
use Rattle.image_table.specs.Table.{SameFrame, in_records, store_of, store_with, table_by, table_of, table_rule, table_with}

-- what is known of a directory's table
pub record Loads (blocks : ℕ) (image : ℕ → List ℕ) (d : Directory) (table : Table) : Type 0 where
  pub lawful : is_lawful d ≡ true
  pub share : may_share 240 blocks d.stores ≡ true
  pub stores : each (store_of image d.now) d.stores ≡ Some table.stores
  pub whole : table_with d table.stores ≡ table

pub table_loads : (blocks : ℕ) (image : ℕ → List ℕ) (d : Directory) (table : Table)
    → table_by blocks image d ≡ Some table → Loads blocks image d table
unfolding table_by
table_loads blocks image d table h =
    let parts = given_then (is_lawful d && may_share 240 blocks d.stores)
    (λ (_ : ⊤). each (store_of image d.now) d.stores >>= λ (stores : List Store). Some (table_with d stores)) table h in
    let both = and_parts (is_lawful d) (may_share 240 blocks d.stores) parts.0 in
    let (stores, loads, last) = some_then (each (store_of image d.now) d.stores) (λ (stores : List Store). Some (table_with d stores)) table parts.1 in
    let same : table_with d stores ≡ table = same_Some (table_with d stores) table last in
    let stores_are : stores ≡ table.stores = ap (λ (t : Table). t.stores) same in
    record {
      lawful = both.0;
      share = both.1;
      stores = loads ∙ ap Some stores_are;
      whole = ap (table_with d) (sym stores_are) ∙ same;
    }

pub loads_table : (blocks : ℕ) (image : ℕ → List ℕ) (d : Directory) (table : Table)
    → Loads blocks image d table → table_by blocks image d ≡ Some table
unfolding table_by
loads_table blocks image d table loads =
    rw (loads.lawful, loads.share) (rw (loads.stores) (ap Some loads.whole))

-- a store and the records that it keeps
pub store_kept : (image : ℕ → List ℕ) (now : ℕ) (s : Listed) (store : Store)
    → store_of image now s ≡ Some store
    → (records : List Meaning) × (kept_of table_rule image now s.row s.links ≡ Some records) × (store_with s records ≡ store)
store_kept image now s store is = pick (kept_of table_rule image now s.row s.links) refl is
  where
    pick : (found : Option (List Meaning)) → kept_of table_rule image now s.row s.links ≡ found
        → option_map (store_with s) found ≡ Some store
        → (records : List Meaning) × (kept_of table_rule image now s.row s.links ≡ Some records) × (store_with s records ≡ store)
    pick None found is = absurd (none-some store is)
    pick (Some records) found is = (records, found, same_Some (store_with s records) store is)

pub kept_store : (image : ℕ → List ℕ) (now : ℕ) (s : Listed) (records : List Meaning)
    → kept_of table_rule image now s.row s.links ≡ Some records
    → store_of image now s ≡ Some (store_with s records)
kept_store image now s records is = ap (option_map (store_with s)) is

-- the blocks of links are data blocks
pub data_tests : (blocks block : ℕ) → (nat_le 7 block && nat_lt block blocks) ≡ true → (7 ≤ block) × (block < blocks)
data_tests blocks block h = (grind (arith, nat_tests), grind (arith, nat_tests))

pub own_links : (blocks : ℕ) (links : List Link) → list_all (is_data blocks) links ≡ true → All (IsInDevice blocks) links
own_links blocks [] h = All-nil (IsInDevice blocks)
own_links blocks (link ∷ links) h =
    let parts = and_parts (is_data blocks link) (list_all (is_data blocks) links) h in
    All-cons (IsInDevice blocks) link links (data_tests blocks link.block parts.0).1 (own_links blocks links parts.1)

pub data_links : (blocks : ℕ) (stores : List Listed) → list_all (is_data blocks) (all_links stores) ≡ true
    → EachIs (λ (s : Listed). list_all (is_data blocks) s.links ≡ true) stores
data_links blocks [] h = tt
data_links blocks (s ∷ stores) h =
    let parts = and_parts (list_all (is_data blocks) s.links) (list_all (is_data blocks) (all_links stores))
    (sym (list_all-append (is_data blocks) s.links (all_links stores)) ∙ h) in
    (parts.0, data_links blocks stores parts.1)

pub shared_links : (blocks : ℕ) (stores : List Listed) → may_share 240 blocks stores ≡ true
    → list_all (is_data blocks) (all_links stores) ≡ true
shared_links blocks stores h =
    let apart = (and_parts (nat_le (reserved_at 240 stores + 8) blocks && list_all (is_within 240) stores) (are_apart blocks (all_links stores)) h).1 in
    (and_parts (list_all (is_data blocks) (all_links stores)) (are_distinct (map block_of (all_links stores))) apart).0

-- a store of the directory, whose pages are the same
abbrev Stays : (blocks : ℕ) → (image other : ℕ → List ℕ) → Listed → Type 0
Stays blocks image other s =
    (list_all (is_data blocks) s.links ≡ true)
    × ((p : ℕ) → in_store image p s.row s.links ≡ true → other p ≡ image p)

module _ (blocks : ℕ) (image other : ℕ → List ℕ) (content : IsContent blocks image) (others : IsContent blocks other) where
  store_stays : (now : ℕ) (s : Listed) (store : Store) → Stays blocks image other s
      → store_of image now s ≡ Some store → store_of other now s ≡ Some store
  store_stays now s store (data_blocks, same) is =
      let (records, kept, whole) = store_kept image now s store is in
      kept_store other now s records
      (kept_stays blocks image other content others s.row s.links (own_links blocks s.links data_blocks) same table_rule now records kept)
      ∙ ap Some whole

  module _ (d : Directory) (same : (p : ℕ) → in_records image p d ≡ true → other p ≡ image p) where
    stay : may_share 240 blocks d.stores ≡ true → EachIs (Stays blocks image other) d.stores
    stay share =
        each_both (λ (s : Listed). list_all (is_data blocks) s.links ≡ true)
        (λ (s : Listed). (p : ℕ) → in_store image p s.row s.links ≡ true → other p ≡ image p)
        (Stays blocks image other) (λ s a b. (a, b)) d.stores
        (data_links blocks d.stores (shared_links blocks d.stores share))
        (all_of_any (λ p (s : Listed). in_store image p s.row s.links) (λ p. other p ≡ image p) d.stores same)

    -- a directory's table, where its records stay
    pub records_kept : (table : Table) → table_by blocks image d ≡ Some table → table_by blocks other d ≡ Some table
    records_kept table h =
        let loads = table_loads blocks image d table h in
        loads_table blocks other d table
        (record {
          lawful = loads.lawful;
          share = loads.share;
          stores = each_same (Stays blocks image other) (store_of image d.now) (store_of other d.now) (store_stays d.now) d.stores table.stores (stay loads.share) loads.stores;
          whole = loads.whole;
        })

    -- and then its records' pages are the same ones
    pub same_records : (table : Table) → table_by blocks image d ≡ Some table → (p : ℕ) → in_records other p d ≡ in_records image p d
    same_records table h p =
        let loads = table_loads blocks image d table h in
        any_same (λ (s : Listed). in_store image p s.row s.links) (λ (s : Listed). in_store other p s.row s.links) d.stores
        (each_both (Stays blocks image other) (λ (s : Listed). (store : Store) × (store_of image d.now s ≡ Some store))
        (λ (s : Listed). in_store other p s.row s.links ≡ in_store image p s.row s.links)
        (λ s (data_blocks, near) (store, is). let (records, kept, whole) = store_kept image d.now s store is in
        pages_stay blocks image other content others s.row s.links (own_links blocks s.links data_blocks) near table_rule d.now records p kept)
        d.stores (stay loads.share) (answered (store_of image d.now) d.stores table.stores loads.stores))

  -- a table is read from its frame
  pub table_same : SameFrame blocks image other → (table : Table) → table_of blocks image ≡ Some table → table_of blocks other ≡ Some table
  unfolding table_of
  table_same frame table h =
      let (d, is, by) = some_then (directory_of blocks image) (table_by blocks image) table h in
      rw (journal_frame.journal_same blocks image other frame.journal ∙ is) (records_kept d (frame.records d is) table by)
