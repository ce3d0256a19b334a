-- A store that takes a packet, as its row and its index show it.
use Rattle.std.proofs.Common.{◌≡◌, ℕ, ◌+◌, ◌-◌, ◌≤◌, List, [], ◌∷◌, All, length, map, drop, replicate, Some, refl, sym, ◌∙◌, ap, subst, arith}
use Rattle.std.specs.Prelude.{slice_get}
use Rattle.std.proofs.lemmas.Bool.{leb-true}
use Rattle.std.proofs.lemmas.List.{length-replicate}
use Rattle.std.proofs.lemmas.List.Elements.{All-drop}
use Rattle.image_table.specs.Table.{table_rule}
use Rattle.image_table.proofs.Frames.{table_loads}
use Rattle.pst_model.specs.Laws.{time_of}
use Rattle.pst_model.specs.Rules.{has_room}
use Rattle.pst_model.specs.Table.{Store, Stored, Table, content_in}
use Rattle.pst_model.proofs.Puts.{to_drop-least}
use Rattle.board.specs.Flash.{Flash}
use Rattle.put_laws.specs.Indexes.{entry_of}
use Rattle.put_laws.specs.Puts.{Accepts, need_of}
use Rattle.put_laws.proofs.Contents.{need_within}
use Rattle.std.proofs.lemmas.Option.{same_Some}
use Rattle.store_directory.specs.Directory.{Listed}
use Rattle.store_directory.specs.declared.row.Row.{Row}
use Rattle.store_load.specs.InRange.{IsPlaced}
use Rattle.store_policy.specs.Shown.{AreShown, IsShown, IsTableShown, length_of, octets_in}
use Rattle.store_policy.specs.declared.view.View.{View}
use Rattle.store_policy.proofs.Stored.{content-behind}
use Rattle.store_put.proofs.Refused.{shown_at}
use Rattle.time_index.specs.TimeIndex.{EndsBy, TimeIndex, pages_of, stamp_of}
use Rattle.time_index.specs.declared.entry.Entry.{Entry}
use Rattle.vault.proofs.EachStores.{each_gives}
use Rattle.vault.proofs.Fetched.{by_directory}
use Rattle.vault.proofs.Loads.{all_at}
use Rattle.vault.proofs.Places.{if_some}
use Rattle.vault.proofs.Tables.{HasIndex, shows_table}
use Rattle.vault.specs.Memory.{InMemory, IsViewOf}
use Rattle.vault.specs.Standing.{IsStoreOf, StandsFor}

-- packets of any octets that an index lists

abbrev packet_of : Entry → Stored
packet_of entry = record { time = entry.stamp; octets = replicate entry.length 0 }

times_are : (entries : List Entry) → map time_of (map packet_of entries) ≡ map stamp_of entries
times_are [] = refl
times_are (entry ∷ entries) = ap (λ (l : List ℕ). entry.stamp ∷ l) (times_are entries)

lengths_are : (entries : List Entry) → map octets_in (map packet_of entries) ≡ map length_of entries
lengths_are [] = refl
lengths_are (entry ∷ entries) = λ i. length-replicate {A = ℕ} entry.length 0 i ∷ lengths_are entries i

-- Some store is shown by a row and an index.
pub record SomeShown (s : Listed) (index : TimeIndex) : Type 0 where
  pub store : Store
  pub shown : IsShown store s.row index
  pub patterns : store.patterns ≡ s.patterns

pub some_shown : (s : Listed) (index : TimeIndex) → SomeShown s index
some_shown s index = record {
  store = record {
    identifier = s.identifier;
    kind = s.kind;
    size = s.size;
    channel = s.channel;
    storage = s.storage;
    open_on = s.open_on;
    told = s.told;
    patterns = s.patterns;
    packets = map packet_of index.entries;
    behind = s.behind;
    range = s.range;
  };
  shown = record {
    identifier = refl;
    kind = refl;
    size = refl;
    channel = refl;
    storage = refl;
    open_on = refl;
    told = refl;
    behind = refl;
    range = refl;
    packets = record { times = times_are index.entries; lengths = lengths_are index.entries };
  };
  patterns = refl;
}

-- the pages of the packets that are left, and of the new one
pub accepted_pages : (store : Store) (row : Row) (index : TimeIndex) (stored : Stored) (gone : ℕ) → IsShown store row index → Accepts store stored gone
    → pages_of (drop gone index.entries) + need_of stored ≤ row.size
accepted_pages store row index stored gone shown accepts =
    let fewest = to_drop-least store (need_of stored) (need_within store (need_of stored) accepts.room) in
    let passes = ap (has_room store (need_of stored)) accepts.leaving ∙ fewest.passes in
    let fits = leb-true (content_in (drop gone store.packets) + need_of stored) store.size passes in
    let same = content-behind store.packets index.entries shown.packets gone in
    omega (arith, fits, same, shown.size)

-- none of the packets is later than the new one
pub ends_by : (now gone : ℕ) (entries : List Entry) → All (IsPlaced table_rule now) entries → EndsBy (drop gone entries) now
ends_by now gone entries all =
    let left = drop gone entries in
    if_some (slice_get left (length left - 1)) (λ (last : Entry). stamp_of last ≤ now)
    (λ last is. (all_at (IsPlaced table_rule now) left (length left - 1) last (All-drop (IsPlaced table_rule now) gone entries all) is).stamp)

-- The store of a table that is shown at a place.
pub record ShownAt (table : Table) (at : ℕ) (s : Listed) (index : TimeIndex) : Type 0 where
  pub store : Store
  pub there : slice_get table.stores at ≡ Some store
  pub shown : IsShown store s.row index
  pub patterns : store.patterns ≡ s.patterns

shown_by : (table : Table) (listed : List Listed) (indexes : List TimeIndex) (at : ℕ) (s : Listed) (index : TimeIndex) → AreShown table.stores listed indexes
    → slice_get listed at ≡ Some s → slice_get indexes at ≡ Some index → ShownAt table at s index
shown_by table listed indexes at s index are is has =
    let (store, there, shown) = shown_at table.stores listed indexes at s index are is has in
    record { store = store; there = there; shown = shown.shown; patterns = shown.patterns }

-- of a table that a view shows
pub viewed_at : (vault : InMemory) (table : Table) (view : View) (at : ℕ) (s : Listed) (index : TimeIndex) → IsViewOf view vault → IsTableShown table view
    → slice_get vault.directory.stores at ≡ Some s → slice_get vault.indexes at ≡ Some index → ShownAt table at s index
viewed_at vault table view at s index is shown there has =
    shown_by table view.directory.now.stores view.indexes.now at s index shown.stores
    (ap (λ d. slice_get d.directory.stores at) is.directory ∙ there)
    (ap (λ (l : List TimeIndex). slice_get l at) is.indexes ∙ has)

-- of the table that the vault stands for
pub standing_at : (vault : InMemory) (flash : Flash) (table : Table) (at : ℕ) (s : Listed) (index : TimeIndex) → StandsFor vault flash table
    → slice_get vault.directory.stores at ≡ Some s → slice_get vault.indexes at ≡ Some index → ShownAt table at s index
standing_at vault flash table at s index stands there has =
    let d = vault.directory.directory in
    let here = by_directory vault.blocks flash.content d table stands.directory stands.holds in
    let loads = table_loads vault.blocks flash.content d table here in
    let shows = shows_table vault.blocks flash.content d vault.indexes vault.lasts loads.lawful loads.share
    (each_gives (IsStoreOf flash d.now) (HasIndex flash.content d.now) (λ s index last one. one.index_is) d.stores vault.indexes vault.lasts stands.stores) in
    subst (λ (t : Table). ShownAt t at s index) (same_Some shows.table table (sym shows.by ∙ here))
    (shown_by shows.table d.stores vault.indexes at s index shows.stores there has)

-- the pages that a packet takes, and the place of its entry

pub need_few : (stored : Stored) → length stored.octets ≤ 4096 → need_of stored ≤ 17
need_few stored longest = omega (arith, longest)

pub entry_placed : (stored : Stored) (block page : ℕ) → 7 ≤ length stored.octets → length stored.octets ≤ 4096 → page + need_of stored ≤ 256
    → IsPlaced table_rule stored.time (entry_of stored block page)
entry_placed stored block page shortest longest fits = record { stamp = omega arith; shortest = shortest; longest = longest; within = fits }
