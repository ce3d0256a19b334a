-- The stores of a table are those of the rows that its directory lists.
use Rattle.std.proofs.Common.{◌≡◌, ℕ, true, List, [], ◌∷◌, All, length, map, Some, refl, sym, ◌∙◌, ap, subst}
use Rattle.std.specs.List.{list_all}
use Rattle.std.proofs.lemmas.List.{length-map}
use Rattle.std.proofs.lemmas.List.Elements.{All-head, All-tail}
use Rattle.std.proofs.lemmas.Option.{same_Some}
use Rattle.board.specs.Flash.{IsContent}
use Rattle.pst_model.specs.Laws.{time_of}
use Rattle.pst_model.specs.Table.{Store, Table}
use Rattle.retrieval.specs.Grants.{AreByRows, IsByRow}
use Rattle.store_directory.specs.Directory.{Directory, IsDirectory, IsListed, Listed}
use Rattle.store_load.specs.Claims.{is_data}
use Rattle.store_load.specs.Each.{each}
use Rattle.store_load.proofs.Counting.{counts_records}
use Rattle.store_load.proofs.Eachs.{EachIs, each_cons}
use Rattle.store_policy.specs.Shown.{AreAllTogether, AreShown, AreTogether, IsShown}
use Rattle.time_index.specs.TimeIndex.{TimeIndex, stamp_of}
use Rattle.image_table.specs.Table.{store_of, stored_of, table_by, table_rule}
use Rattle.image_table.proofs.Frames.{data_links, shared_links, store_kept, table_loads}
use Rattle.image_table.proofs.Stores.{listed_keeps}

-- as many packets as the row counts
module _ (blocks : ℕ) (image : ℕ → List ℕ) (now : ℕ) (pages : IsContent blocks image) where
  store_by_row : (s : Listed) (store : Store) → IsListed s → list_all (is_data blocks) s.links ≡ true → store_of image now s ≡ Some store → IsByRow store s.row
  store_by_row s store listed in_data is =
      let (records, kept, whole) = store_kept image now s store is in
      let keeps = listed_keeps blocks image now s records pages listed in_data kept in
      let many : length (map stored_of records) ≡ s.count = length-map records stored_of ∙ counts_records table_rule blocks image now s.row s.links records keeps in
      subst (λ (x : Store). IsByRow x s.row) whole (record { channel = refl; open_on = refl; count = many; behind = refl; range = refl })

  stores_by_rows : (listed : List Listed) (stores : List Store) → All IsListed listed → EachIs (λ (s : Listed). list_all (is_data blocks) s.links ≡ true) listed
      → each (store_of image now) listed ≡ Some stores → AreByRows stores listed
  stores_by_rows [] stores all in_data is = subst (λ (l : List Store). AreByRows l []) (same_Some [] stores is) tt
  stores_by_rows (s ∷ listed) stores all in_data is =
      let (store, rest, here, behind, whole) = each_cons (store_of image now) s listed stores is in
      subst (λ (l : List Store). AreByRows l (s ∷ listed)) whole
      (store_by_row s store (All-head IsListed s listed all) in_data.0 here, stores_by_rows listed rest (All-tail IsListed s listed all) in_data.1 behind)

pub held_by_rows : (blocks : ℕ) (image : ℕ → List ℕ) (d : Directory) (table : Table) → IsContent blocks image → IsDirectory d → table_by blocks image d ≡ Some table
    → AreByRows table.stores d.stores
held_by_rows blocks image d table pages directory held =
    let loads = table_loads blocks image d table held in
    stores_by_rows blocks image d.now pages d.stores table.stores directory.stores.each (data_links blocks d.stores (shared_links blocks d.stores loads.share)) loads.stores

-- by the entries of the indexes
shown_by_row : (store : Store) (s : Listed) (index : TimeIndex) → IsShown store s.row index → AreTogether s.row index → IsByRow store s.row
shown_by_row store s index shown together = record {
  channel = shown.channel;
  open_on = shown.open_on;
  count = sym (length-map store.packets time_of) ∙ ap length shown.packets.times ∙ length-map index.entries stamp_of ∙ together.count;
  behind = shown.behind;
  range = shown.range;
}

pub shown_by_rows : (stores : List Store) (listed : List Listed) (indexes : List TimeIndex) → AreShown stores listed indexes → AreAllTogether listed indexes → AreByRows stores listed
shown_by_rows [] [] [] shown together = tt
shown_by_rows (store ∷ stores) (s ∷ listed) (index ∷ indexes) shown together =
    (shown_by_row store s index shown.0.shown together.0, shown_by_rows stores listed indexes shown.1 together.1)
shown_by_rows _ _ _ shown together = absurd shown
