-- The store whose turn it is, in the directory and in the table.
use Rattle.std.proofs.Common.{◌≡◌, ℕ, suc, ◌+◌, ◌*◌, ◌≤◌, true, List, [], ◌∷◌, ◌++◌, length, map, drop, length-append, Some, sym, ◌∙◌, ap, subst, arith}
use Rattle.std.specs.Prelude.{find, slice_get, slice_set}
use Rattle.std.specs.Option.{option_and_then}
use Rattle.std.specs.List.{All}
use Rattle.std.proofs.lemmas.Grind.{flat_map-append}
use Rattle.std.proofs.lemmas.List.{length-map}
use Rattle.std.proofs.lemmas.List.Elements.{All-append}
use Rattle.std.proofs.lemmas.Option.{same_Some}
use Rattle.board.specs.Flash.{IsContent}
use Rattle.pst_model.specs.Arrivals.{offered}
use Rattle.pst_model.specs.Changes.{is_named}
use Rattle.pst_model.specs.Laws as laws
use Rattle.pst_model.specs.Rules.{at_first}
use Rattle.pst_model.specs.Table.{Store, Stored, Table}
use Rattle.record_view.specs.Records.{Meaning}
use Rattle.store_directory.specs.Changes.{Change, apply_all}
use Rattle.store_directory.specs.Directory.{Directory, IsDirectory, Listed, are_distinct, identifiers}
use Rattle.store_directory.specs.Entries.{FitsChange, change_octets, entry_octets}
use Rattle.store_directory.specs.declared.row.Row.{Row}
use Rattle.store_directory.proofs.Folded.{apply_all-append}
use Rattle.store_load.specs.Each.{each}
use Rattle.store_load.specs.Kept.{kept_of}
use Rattle.store_load.proofs.Eachs.{each_cons}
use Rattle.image_table.specs.Going.{table_put, with_row}
use Rattle.image_table.specs.Table.{store_of, store_with, table_by, table_rule}
use Rattle.image_table.proofs.Placed.{each_at}
use Rattle.image_table.proofs.Frames.{Loads, store_kept, table_loads}
use Rattle.put_laws.specs.Puts.{Begins, Outcome, Stays, Takes, Tells, changes_of_put, is_unnamed, listed_behind}
use Rattle.put_laws.specs.Walks.{HasGoneOn, HasOffered, IsOther, IsTurn, offered_to, table_at}
use Rattle.put_laws.proofs.Spots.{Spot, drop_more, drop_past, find_here, first_here, get_here, get_left, offered_here, offered_next, spot}

-- the stores of a table have the identifiers of those of its directory
names_same : (image : ℕ → List ℕ) (now : ℕ) (listed : List Listed) (stores : List Store) → each (store_of image now) listed ≡ Some stores
    → laws.identifiers stores ≡ identifiers listed
names_same image now [] stores h = ap laws.identifiers (sym (same_Some [] stores h))
names_same image now (s ∷ listed) stores h =
    let (store, rest, here, behind, whole) = each_cons (store_of image now) s listed stores h in
    let (records, kept, made) = store_kept image now s store here in
    ap laws.identifiers (sym whole)
    ∙ ap (λ (n : ℕ). n ∷ laws.identifiers rest) (ap (λ (x : Store). x.identifier) (sym made))
    ∙ ap (λ (l : List ℕ). s.identifier ∷ l) (names_same image now listed rest behind)

-- A store of a directory whose table the image holds, while a packet was offered to those before it.
pub record Turn (blocks : ℕ) (image : ℕ → List ℕ) (d : Directory) (table : Table) (stored : Stored) (at : ℕ) (s : Listed) (store : Store) : Type 0 where
  pub pages : IsContent blocks image
  pub directory : IsDirectory d
  pub loads : table_by blocks image d ≡ Some (table_at stored at table)
  pub listed : slice_get d.stores at ≡ Some s
  pub shown : slice_get table.stores at ≡ Some store

module _ (blocks : ℕ) (image : ℕ → List ℕ) (d : Directory) (table : Table) (stored : Stored) (at : ℕ) (s : Listed) (store : Store)
    (turn : Turn blocks image d table stored at s store) where
  abbrev pub spot_listed : Spot d.stores at s
  spot_listed = spot d.stores at s turn.listed

  abbrev pub spot_shown : Spot table.stores at store
  spot_shown = spot table.stores at store turn.shown

  abbrev pub loaded : Loads blocks image d (table_at stored at table)
  loaded = table_loads blocks image d (table_at stored at table) turn.loads

  abbrev before : List Store
  before = map (offered stored) spot_shown.front

  pub stores_here : offered_to stored at table.stores ≡ before ++ store ∷ spot_shown.back
  stores_here =
      ap (λ (n : ℕ). offered_to stored n table.stores) (sym spot_shown.long)
      ∙ ap (offered_to stored (length spot_shown.front)) spot_shown.parted
      ∙ offered_here stored spot_shown.front store spot_shown.back

  pub stores_next : offered_to stored (suc at) table.stores ≡ before ++ offered stored store ∷ spot_shown.back
  stores_next =
      ap (λ (n : ℕ). offered_to stored (suc n) table.stores) (sym spot_shown.long)
      ∙ ap (offered_to stored (suc (length spot_shown.front))) spot_shown.parted
      ∙ offered_next stored spot_shown.front store spot_shown.back

  -- the store is what the directory lists, with the records that the image has
  pub store_is : store_of image d.now s ≡ Some store
  store_is =
      let long : length before ≡ at = length-map spot_shown.front (offered stored) ∙ spot_shown.long in
      each_at (store_of image d.now) d.stores (offered_to stored at table.stores) at s store loaded.stores turn.listed
      (ap (λ (l : List Store). slice_get l at) stores_here
      ∙ ap (slice_get (before ++ store ∷ spot_shown.back)) (sym long)
      ∙ get_here before store spot_shown.back)

  pub kept_is : (records : List Meaning) × (kept_of table_rule image d.now s.row s.links ≡ Some records) × (store_with s records ≡ store)
  kept_is = store_kept image d.now s store store_is

  pub named_is : store.identifier ≡ s.identifier
  named_is = let (records, kept, whole) = kept_is in ap (λ (x : Store). x.identifier) (sym whole)

  distinct_here : are_distinct (laws.identifiers (before ++ store ∷ spot_shown.back)) ≡ true
  distinct_here =
      ap (λ (l : List Store). are_distinct (laws.identifiers l)) (sym stores_here)
      ∙ ap are_distinct (names_same image d.now d.stores (offered_to stored at table.stores) loaded.stores)
      ∙ turn.directory.stores.distinct

  pub found_is : find (is_named s.identifier) (offered_to stored at table.stores) ≡ Some store
  found_is =
      ap (find (is_named s.identifier)) stores_here
      ∙ ap (λ (n : ℕ). find (is_named n) (before ++ store ∷ spot_shown.back)) (sym named_is)
      ∙ find_here store spot_shown.back before distinct_here

  -- a row that makes what the packet makes of the store
  pub put_next : (row : Row) (gone : ℕ) (more : List Stored) → row.identifier ≡ s.identifier
      → with_row row (drop gone store.packets ++ more) store ≡ offered stored store
      → table_put row gone more (table_at stored at table) ≡ table_at stored (suc at) table
  put_next row gone more same made =
      let change : Store → Store = λ x. with_row row (drop gone x.packets ++ more) x in
      let stores : at_first (is_named row.identifier) change (offered_to stored at table.stores) ≡ offered_to stored (suc at) table.stores =
      ap (at_first (is_named row.identifier) change) stores_here
      ∙ ap (λ (n : ℕ). at_first (is_named n) change (before ++ store ∷ spot_shown.back)) (same ∙ sym named_is)
      ∙ first_here store spot_shown.back change before distinct_here
      ∙ ap (λ (x : Store). before ++ x ∷ spot_shown.back) made
      ∙ sym stores_next in
      ap (λ (l : List Store). record (table_at stored at table) { stores = l }) stores

  -- a store that the packet leaves as it was
  pub same_next : offered stored store ≡ store → table_at stored at table ≡ table_at stored (suc at) table
  same_next same =
      ap (λ (l : List Store). record (table_at stored at table) { stores = l })
      (stores_here ∙ ap (λ (x : Store). before ++ x ∷ spot_shown.back) (sym same) ∙ sym stores_next)

-- the walk, before this store
pub turn_of : (blocks : ℕ) (image : ℕ → List ℕ) (d : Directory) (table : Table) (stored : Stored) (at : ℕ) (changes : List Change) (next : Directory) (s : Listed) (store : Store)
    → HasOffered blocks image d table stored at changes next → IsTurn d table at s store → Turn blocks image next table stored at s store
turn_of blocks image d table stored at changes next s store walk turn = record {
  pages = walk.pages;
  directory = walk.directory;
  loads = walk.loads;
  listed = get_left next.stores d.stores at s walk.left turn.listed;
  shown = turn.shown;
}

-- the octets of one store's changes, and of an entry with them
put_short : (row : Row) (outcome : Outcome) → length (entry_octets (changes_of_put row outcome)) ≤ 41
put_short row Stays = omega arith
put_short row Tells = omega arith
put_short row (Takes gone) = omega arith
put_short row (Begins gone link) = omega arith

entry_more : (at : ℕ) (changes : List Change) (row : Row) (outcome : Outcome) → length (entry_octets changes) ≤ 9 + 41 * at
    → length (entry_octets (changes ++ changes_of_put row outcome)) ≤ 9 + 41 * suc at
entry_more at changes row outcome short =
    omega (
      arith,
      short,
      put_short row outcome,
      ap length (flat_map-append change_octets changes (changes_of_put row outcome)),
      length-append (entry_octets changes) (entry_octets (changes_of_put row outcome)),
    )

-- and behind it
pub record Step (blocks : ℕ) (image : ℕ → List ℕ) (before : Directory) (table : Table) (stored : Stored) (at : ℕ) (s : Listed) (outcome : Outcome) : Type 0 where
  pub next : Directory
  pub applied : apply_all before (changes_of_put s.row outcome) ≡ Some next
  pub written : All FitsChange (changes_of_put s.row outcome)
  pub directory : IsDirectory next
  pub loads : table_by blocks image next ≡ Some (table_at stored (suc at) table)
  pub left : drop (suc at) next.stores ≡ drop (suc at) before.stores
  pub stores : next.stores ≡ slice_set before.stores at (listed_behind outcome s)
  pub unnamed : (block : ℕ) → is_unnamed block before ≡ true → IsOther block outcome → is_unnamed block next ≡ true

pub walked : (blocks : ℕ) (image : ℕ → List ℕ) (d : Directory) (table : Table) (stored : Stored) (at : ℕ) (changes : List Change) (before : Directory) (s : Listed) (outcome : Outcome)
    → HasOffered blocks image d table stored at changes before → Step blocks image before table stored at s outcome
    → HasGoneOn blocks image d table stored at changes before s outcome
walked blocks image d table stored at changes before s outcome walk step =
    let more = changes_of_put s.row outcome in
    let one : suc at ≡ at + 1 = omega arith in
    record {
      next = step.next;
      applied = step.applied;
      walk =
          subst (λ (n : ℕ). HasOffered blocks image d table stored n (changes ++ more) step.next) one
          (record {
            pages = walk.pages;
            made = apply_all-append d changes more ∙ ap (option_and_then (λ (e : Directory). apply_all e more)) walk.made ∙ step.applied;
            written = All-append FitsChange changes more walk.written step.written;
            short = entry_more at changes s.row outcome walk.short;
            directory = step.directory;
            loads = step.loads;
            left = step.left ∙ drop_more before.stores d.stores at walk.left;
          });
      stores = step.stores;
      unnamed = step.unnamed;
    }

-- another store in the place of one
pub left_in : (stores : List Listed) (front : List Listed) (s new : Listed) (back : List Listed) (at : ℕ) → stores ≡ front ++ s ∷ back → length front ≡ at
    → drop (suc at) (front ++ new ∷ back) ≡ drop (suc at) stores
left_in stores front s new back at parted long =
    ap (λ (n : ℕ). drop (suc n) (front ++ new ∷ back)) (sym long)
    ∙ drop_past front new back ∙ sym (drop_past front s back)
    ∙ ap (λ (n : ℕ). drop (suc n) (front ++ s ∷ back)) long
    ∙ ap (drop (suc at)) (sym parted)
