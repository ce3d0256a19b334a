-- The table that an image holds of a directory whose stores keep their records.
use Rattle.std.proofs.Common.{◌≡◌, ℕ, true, List, [], ◌∷◌, map, Some, refl, sym, ◌∙◌, ap}
use Rattle.image_table.specs.Table.{store_of, store_with, stored_of, table_by, table_rule, table_with}
use Rattle.image_table.proofs.Frames.{kept_store, loads_table, store_kept, table_loads}
use Rattle.pst_model.specs.Table.{Store, Table}
use Rattle.record_view.specs.Records.{Meaning}
use Rattle.store_directory.specs.Checkpoints.{is_lawful}
use Rattle.store_directory.specs.Directory.{Directory, Listed}
use Rattle.store_load.specs.Each.{each}
use Rattle.store_load.proofs.Eachs.{each_cons, each_more}
use Rattle.request_laws.specs.Changing.{AllKeepRecords, AreListedAs, IsListedAs, IsTableOf, KeepsRecords}
use Rattle.request_laws.proofs.Finding.{packets_of}
use Rattle.request_laws.proofs.Stays.{kept_kept, share_kept}

-- the first of two lists, and the rest
pub first_same : {X : Type 0} {x y : X} {xs ys : List X} → x ∷ xs ≡ y ∷ ys → x ≡ y
first_same is = cc

pub rest_same : {X : Type 0} {x y : X} {xs ys : List X} → x ∷ xs ≡ y ∷ ys → xs ≡ ys
rest_same is = cc

-- a store that is listed so, with these packets
pub store_is : (s : Listed) (records : List Meaning) (store : Store) → IsListedAs store s → store.packets ≡ map stored_of records → store_with s records ≡ store
store_is s records store is packets = λ i. record {
  identifier = sym is.identifier i;
  kind = sym is.kind i;
  size = sym is.size i;
  channel = sym is.channel i;
  storage = sym is.storage i;
  open_on = sym is.open_on i;
  told = sym is.told i;
  patterns = sym is.patterns i;
  packets = sym packets i;
  behind = sym is.behind i;
  range = sym is.range i;
}

module _ (image : ℕ → List ℕ) (now : ℕ) where
  store_held : (old new : Listed) (store made : Store) → KeepsRecords old new → store_of image now old ≡ Some store → IsListedAs made new → made.packets ≡ store.packets
      → store_of image now new ≡ Some made
  store_held old new store made keeps held is packets =
      let (records, kept, whole) = store_kept image now old store held in
      kept_store image now new records (kept_kept table_rule image now old new keeps ∙ kept)
      ∙ ap Some (store_is new records made is (packets ∙ ap (λ (x : Store). x.packets) (sym whole)))

  stores_held : (old new : List Listed) (stores made : List Store) → AllKeepRecords old new → each (store_of image now) old ≡ Some stores → AreListedAs made new
      → map packets_of made ≡ map packets_of stores → each (store_of image now) new ≡ Some made
  stores_held [] [] stores [] keeps held are packets = refl
  stores_held (o ∷ old) (n ∷ new) stores (m ∷ made) keeps held are packets =
      let (store, rest, here, behind, whole) = each_cons (store_of image now) o old stores held in
      let same : map packets_of (m ∷ made) ≡ map packets_of (store ∷ rest) = packets ∙ ap (map packets_of) (sym whole) in
      each_more (store_of image now) n new m made
      (store_held o n store m keeps.0 here are.0 (first_same same))
      (stores_held old new rest made keeps.1 behind are.1 (rest_same same))
  stores_held [] [] stores (m ∷ made) keeps held are packets = absurd are
  stores_held (o ∷ old) (n ∷ new) stores [] keeps held are packets = absurd are
  stores_held [] (n ∷ new) stores made keeps held are packets = absurd keeps
  stores_held (o ∷ old) [] stores made keeps held are packets = absurd keeps

-- the table of a directory
pub whole_is : (d : Directory) (table : Table) → IsTableOf table d → table_with d table.stores ≡ table
whole_is d table is = λ i. record { now = sym is.now i; reports = sym is.reports i; forward = sym is.forward i; stores = table.stores }

-- by each directory with these stores
pub held_by : (blocks : ℕ) (image : ℕ → List ℕ) (d after : Directory) (table made : Table) → table_by blocks image d ≡ Some table → IsTableOf made after → after.now ≡ d.now
    → AllKeepRecords d.stores after.stores → map packets_of made.stores ≡ map packets_of table.stores → is_lawful after ≡ true → table_by blocks image after ≡ Some made
held_by blocks image d after table made held is now keeps packets lawful =
    let loads = table_loads blocks image d table held in
    loads_table blocks image after made
    (record {
      lawful = lawful;
      share = share_kept 240 blocks d.stores after.stores keeps ∙ loads.share;
      stores =
          ap (λ (n : ℕ). each (store_of image n) after.stores) now
          ∙ stores_held image d.now d.stores after.stores table.stores made.stores keeps loads.stores is.stores packets;
      whole = whole_is after made is;
    })
