-- The table of a directory that an image holds, or that memory shows, before a request.
use Rattle.std.proofs.Common.{◌≡◌, ℕ, List, [], ◌∷◌, map, replicate, Some, refl, sym, ap, subst}
use Rattle.std.specs.Prelude.{All}
use Rattle.std.proofs.lemmas.List.{length-replicate}
use Rattle.std.proofs.lemmas.List.Elements.{All-cons, All-nil}
use Rattle.std.proofs.lemmas.Option.{same_Some}
use Rattle.image_table.specs.Table.{store_of, store_with, table_by, table_rule}
use Rattle.image_table.proofs.Frames.{store_kept, table_loads}
use Rattle.pst_model.specs.Table.{Store, Stored, Table}
use Rattle.record_view.specs.Records.{Meaning}
use Rattle.store_directory.specs.Directory.{Directory, Listed}
use Rattle.store_load.specs.Each.{each}
use Rattle.store_load.proofs.Counting.{kept_parts}
use Rattle.store_load.proofs.Eachs.{each_cons}
use Rattle.store_policy.specs.Shown.{AreAllTogether, AreIndexed, AreShown, IsTableShown}
use Rattle.store_policy.specs.declared.view.View.{View}
use Rattle.time_index.specs.TimeIndex.{TimeIndex}
use Rattle.time_index.specs.declared.entry.Entry.{Entry}
use Rattle.request_laws.specs.Changing.{AreListedAs, BeginsWell, IsListedAs, IsTableOf}

listed_held : (image : ℕ → List ℕ) (now : ℕ) (listed : List Listed) (stores : List Store) → each (store_of image now) listed ≡ Some stores → AreListedAs stores listed
listed_held image now [] stores held = subst (λ (l : List Store). AreListedAs l []) (same_Some [] stores held) tt
listed_held image now (s ∷ listed) stores held =
    let (store, rest, here, behind, whole) = each_cons (store_of image now) s listed stores held in
    let (records, kept, made) = store_kept image now s store here in
    subst (λ (l : List Store). AreListedAs l (s ∷ listed)) whole
    (subst (λ (x : Store). IsListedAs x s) made (as_listed s records), listed_held image now listed rest behind)
  where
    as_listed : (s : Listed) (records : List Meaning) → IsListedAs (store_with s records) s
    as_listed s records = record {
      identifier = refl;
      kind = refl;
      size = refl;
      channel = refl;
      storage = refl;
      open_on = refl;
      told = refl;
      behind = refl;
      range = refl;
      patterns = refl;
    }

pub of_held : (blocks : ℕ) (image : ℕ → List ℕ) (d : Directory) (table : Table) → table_by blocks image d ≡ Some table → IsTableOf table d
of_held blocks image d table held =
    let loads = table_loads blocks image d table held in
    record {
      now = sym (ap (λ (t : Table). t.now) loads.whole);
      reports = sym (ap (λ (t : Table). t.reports) loads.whole);
      forward = sym (ap (λ (t : Table). t.forward) loads.whole);
      stores = listed_held image d.now d.stores table.stores loads.stores;
    }

each_begins : (image : ℕ → List ℕ) (now : ℕ) (listed : List Listed) (stores : List Store) → each (store_of image now) listed ≡ Some stores → All BeginsWell listed
each_begins image now [] stores held = All-nil BeginsWell
each_begins image now (s ∷ listed) stores held =
    let (store, rest, here, behind, whole) = each_cons (store_of image now) s listed stores held in
    let (records, kept, made) = store_kept image now s store here in
    All-cons BeginsWell s listed (kept_parts table_rule image now s.row s.links records kept).begins (each_begins image now listed rest behind)

pub begin_held : (blocks : ℕ) (image : ℕ → List ℕ) (d : Directory) (table : Table) → table_by blocks image d ≡ Some table → All BeginsWell d.stores
begin_held blocks image d table held =
    let loads = table_loads blocks image d table held in each_begins image d.now d.stores table.stores loads.stores

listed_shown : (stores : List Store) (listed : List Listed) (indexes : List TimeIndex) → AreShown stores listed indexes → AreListedAs stores listed
listed_shown [] [] [] shown = tt
listed_shown (store ∷ stores) (s ∷ listed) (index ∷ indexes) shown = (
  record {
    identifier = shown.0.shown.identifier;
    kind = shown.0.shown.kind;
    size = shown.0.shown.size;
    channel = shown.0.shown.channel;
    storage = shown.0.shown.storage;
    open_on = shown.0.shown.open_on;
    told = shown.0.shown.told;
    behind = shown.0.shown.behind;
    range = shown.0.shown.range;
    patterns = shown.0.patterns;
  },
  listed_shown stores listed indexes shown.1,
)
listed_shown [] [] (index ∷ indexes) shown = absurd shown
listed_shown [] (s ∷ listed) indexes shown = absurd shown
listed_shown (store ∷ stores) [] indexes shown = absurd shown
listed_shown (store ∷ stores) (s ∷ listed) [] shown = absurd shown

pub of_shown : (table : Table) (view : View) → IsTableShown table view → IsTableOf table view.directory.now.directory
of_shown table view shown = record {
  now = shown.now;
  reports = shown.reports;
  forward = shown.forward;
  stores = listed_shown table.stores view.directory.now.stores view.indexes.now shown.stores;
}

-- Memory shows a table: its packets have the times and the lengths of the entries, and any octets.

abbrev packet_of : Entry → Stored
packet_of entry = record { time = entry.stamp; octets = replicate entry.length 0 }

indexed : (entries : List Entry) → AreIndexed (map packet_of entries) entries
indexed [] = record { times = refl; lengths = refl }
indexed (entry ∷ entries) =
    let rest = indexed entries in
    record {
      times = ap (λ (l : List ℕ). entry.stamp ∷ l) rest.times;
      lengths = λ i. length-replicate {A = ℕ} entry.length 0 i ∷ rest.lengths i;
    }

abbrev store_of_entries : Listed → List Entry → Store
store_of_entries s entries = record {
  identifier = s.identifier;
  kind = s.kind;
  size = s.size;
  channel = s.channel;
  storage = s.storage;
  open_on = s.open_on;
  told = s.told;
  patterns = s.patterns;
  packets = map packet_of entries;
  behind = s.behind;
  range = s.range;
}

stores_shown : (listed : List Listed) (indexes : List TimeIndex) → AreAllTogether listed indexes → (stores : List Store) × AreShown stores listed indexes
stores_shown [] [] together = ([], tt)
stores_shown (s ∷ listed) (index ∷ indexes) together =
    let (stores, shown) = stores_shown listed indexes together.1 in (
      store_of_entries s index.entries ∷ stores,
      (
        record {
          shown = record {
            identifier = refl;
            kind = refl;
            size = refl;
            channel = refl;
            storage = refl;
            open_on = refl;
            told = refl;
            behind = refl;
            range = refl;
            packets = indexed index.entries;
          };
          patterns = refl;
        },
        shown,
      ),
    )
stores_shown [] (index ∷ indexes) together = absurd together
stores_shown (s ∷ listed) [] together = absurd together

pub one_shown : (view : View) → AreAllTogether view.directory.now.stores view.indexes.now → (table : Table) × IsTableShown table view
one_shown view together =
    let (stores, shown) = stores_shown view.directory.now.stores view.indexes.now together in (
      record { now = view.directory.now.now; reports = view.directory.now.reports; forward = view.directory.now.forward; stores = stores },
      record { now = refl; reports = refl; forward = refl; stores = shown },
    )
