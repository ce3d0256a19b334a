-- The directory, its table and the memory behind a grant.
use Rattle.std.proofs.Common.{◌≡◌, ℕ, zero, suc, ◌<◌, ◌≤◌, ◌&&◌, nat_eq, nat_le, nat_lt, true, Bool, List, [], ◌∷◌, length, slice_set, Option, Some, refl, sym, ◌∙◌, ap, subst, arith}
use Rattle.std.specs.Prelude.{IsSomeAnd, None, slice_get}
use Rattle.std.specs.List.{list_all}
use Rattle.std.proofs.lemmas.Bool.{and_parts}
use Rattle.std.proofs.lemmas.Bool.Decides.{nat_tests}
use Rattle.std.proofs.lemmas.Option.{none-some, same_Some}
use Rattle.block_pool.specs.Sizes.{blocks_for_size}
use Rattle.board.specs.Flash.{IsContent}
use Rattle.control_defs.specs.Lists.{is_pattern_list}
use Rattle.pst_model.specs.Rules.{grant}
use Rattle.pst_model.specs.Table.{Table}
use Rattle.retrieval.specs.Grants.{IsHeld, Sends, with_positions}
use Rattle.retrieval.specs.Picks.{IsPickOf, pick_of, sent_row}
use Rattle.retrieval.specs.declared.pick.Pick.{Pick}
use Rattle.retrieval.proofs.Firsts.{picked_held, picked_there, row_there}
use Rattle.retrieval.proofs.Granted.{sent_by}
use Rattle.store_directory.specs.Changes.{apply, listed_by, put_row}
use Rattle.store_directory.specs.Checkpoints.{are_lawful, is_lawful, is_lawful_listed}
use Rattle.store_directory.specs.Directory.{Directory, IsDirectory, Listed, are_distinct, find_store, identifiers, put_store, reserved_by, with_stores}
use Rattle.store_directory.specs.Rows.{is_lawful_row}
use Rattle.store_directory.specs.declared.row.Row.{Row}
use Rattle.store_directory.proofs.Applied.{with-some}
use Rattle.store_directory.proofs.Places.{IsFirst, find-first, put-first}
use Rattle.store_directory.proofs.Puts.{put-is}
use Rattle.store_load.specs.Each.{each}
use Rattle.store_policy.specs.Shown.{AreAllTogether, AreShown, IsTableShown}
use Rattle.store_policy.specs.declared.view.View.{View}
use Rattle.image_table.specs.Granting.{Grants, Renews, put_sent}
use Rattle.image_table.specs.Table.{store_of, table_by, table_with}
use Rattle.image_table.proofs.ByRows.{held_by_rows}
use Rattle.image_table.proofs.Frames.{Loads, loads_table, table_loads}
use Rattle.image_table.proofs.Placed.{each_at, each_set, first_own, set_few, set_lawful, set_reserves, set_shares}
use Rattle.image_table.proofs.Showing.{set_shown, set_together, together_of, view_of}
use Rattle.image_table.proofs.SentRows.{links_stay, listed_lawful, same_identifier, same_size, sent_listed, store_sent}

-- what is asked of each store that stands at a place
all_at : (test : Listed → Bool) (stores : List Listed) (at : ℕ) (s : Listed) → list_all test stores ≡ true → slice_get stores at ≡ Some s → test s ≡ true
all_at test [] at s all there = absurd (none-some s there)
all_at test (x ∷ stores) zero s all there = ap test (sym (same_Some x s there)) ∙ (and_parts (test x) (list_all test stores) all).0
all_at test (x ∷ stores) (suc at) s all there = all_at test stores at s (and_parts (test x) (list_all test stores) all).1 there

next_at : (stores : List Listed) (pick : Pick) (s : Listed) → slice_get stores pick.at ≡ Some s → IsHeld stores pick → IsPickOf s.row pick
next_at stores pick s there held = by (slice_get stores pick.at) there held
  where
    by : (found : Option Listed) → found ≡ Some s → IsSomeAnd found (λ x. IsPickOf x.row pick × (pick.position < x.row.count)) → IsPickOf s.row pick
    by None there held = absurd held
    by (Some x) there held = subst (λ (y : Listed). IsPickOf y.row pick) (same_Some x s there) held.0

-- what a grant takes, and the store that stands at its place
record Serves (blocks : ℕ) (image : ℕ → List ℕ) (d : Directory) (table : Table) (pick : Pick) (s : Listed) : Type 0 where
  pages : IsContent blocks image
  directory : IsDirectory d
  loads : table_by blocks image d ≡ Some table
  picked : pick_of d.stores ≡ Some pick
  there : slice_get d.stores pick.at ≡ Some s

-- the store of a row
record Served (blocks : ℕ) (image : ℕ → List ℕ) (d : Directory) (table : Table) (pick : Pick) (row : Row) : Type 0 where
  store : Listed
  same : store.row ≡ row
  serves : Serves blocks image d table pick store

served : (blocks : ℕ) (image : ℕ → List ℕ) (d : Directory) (table : Table) (pick : Pick) (row : Row) → Grants blocks image d table pick row → Served blocks image d table pick row
served blocks image d table pick row grants =
    let there = picked_there d.stores pick grants.picked in
    record {
      store = there.0;
      same = sym (row_there d.stores pick.at row there.0 grants.here there.1);
      serves = record { pages = grants.pages; directory = grants.directory; loads = grants.loads; picked = grants.picked; there = there.1 };
    }

module _ (blocks : ℕ) (image : ℕ → List ℕ) (d : Directory) (table : Table) (pick : Pick) (s : Listed) (grants : Serves blocks image d table pick s) where
  abbrev row : Row
  row = sent_row pick.range s.row

  abbrev new : Listed
  new = sent_listed pick.range s

  abbrev after_stores : List Listed
  after_stores = slice_set d.stores pick.at new

  loads : Loads blocks image d table
  loads = table_loads blocks image d table grants.loads

  -- what the model's grant is
  sends : (number : ℕ) → Sends number table pick row (grant number table)
  sends number = sent_by number table d.stores (held_by_rows blocks image d table grants.pages grants.directory grants.loads) pick s grants.picked grants.there

  ahead : IsPickOf s.row pick
  ahead = next_at d.stores pick s grants.there (picked_held d.stores grants.directory.stores.each pick grants.picked)

  is_kept : store_of image d.now s ≡ Some (sends 0).store
  is_kept = each_at (store_of image d.now) d.stores table.stores pick.at s (sends 0).store loads.stores grants.there (sends 0).there

  stores_lawful : (are_lawful d.stores ≡ true) × ((nat_lt d.reports 16384 && is_pattern_list d.forward) ≡ true)
  unfolding is_lawful
  stores_lawful = let parts = and_parts (nat_lt d.reports 16384 && is_pattern_list d.forward) (are_lawful d.stores) loads.lawful in (parts.1, parts.0)

  new_lawful : is_lawful_listed new ≡ true
  new_lawful =
      let front = and_parts (list_all is_lawful_listed d.stores && are_distinct (identifiers d.stores) && nat_le (length d.stores) 32) (nat_le (reserved_by d.stores) 504) stores_lawful.0 in
      let named = and_parts (list_all is_lawful_listed d.stores && are_distinct (identifiers d.stores)) (nat_le (length d.stores) 32) front.0 in
      let each_is = (and_parts (list_all is_lawful_listed d.stores) (are_distinct (identifiers d.stores)) named.0).0 in
      listed_lawful pick.range pick.position s ahead (all_at is_lawful_listed d.stores pick.at s each_is grants.there)

  next_lawful : are_lawful after_stores ≡ true
  next_lawful = set_lawful s new (same_identifier pick.range s) (same_size pick.range s) refl d.stores pick.at grants.there stores_lawful.0 new_lawful

  -- the row can be put
  applied : apply d (put_sent pick s.row) ≡ Some (with_stores d after_stores)
  unfolding apply
  applied =
      let first = first_own d.stores pick.at s grants.directory.stores.distinct grants.there in
      let same_name : s.identifier ≡ row.identifier = sym (same_identifier pick.range s) in
      let found : find_store row.identifier d.stores ≡ Some s =
      ap (λ (n : ℕ). find_store n d.stores) (sym same_name) ∙ find-first s.identifier d.stores pick.at first ∙ grants.there in
      let listed : listed_by row (find_store row.identifier d.stores) ≡ new =
      ap (listed_by row) found ∙ (λ i. record { row = row; patterns = s.patterns; links = links_stay image d.now pick.range s (sends 0).store is_kept i }) in
      let put : put_store new d.stores ≡ after_stores =
      put-first new d.stores pick.at (subst (λ (n : ℕ). IsFirst (nat_eq n) (identifiers d.stores) pick.at) same_name first) in
      let rows = and_parts (is_lawful_row row && is_pattern_list s.patterns) (nat_le (length s.links) (blocks_for_size row.size)) new_lawful in
      with-some d (put_row row d.stores) after_stores
      (put-is row d.stores new after_stores listed put
      (record {
        lawful = (and_parts (is_lawful_row row) (is_pattern_list s.patterns) rows.0).0;
        few = omega (arith, set_few s new (same_identifier pick.range s) (same_size pick.range s) refl d.stores pick.at grants.there, grants.directory.stores.few);
        reserved = omega (arith, set_reserves s new (same_identifier pick.range s) (same_size pick.range s) refl d.stores pick.at grants.there, grants.directory.stores.reserved);
        links = at_most (length s.links) (blocks_for_size row.size) rows.1;
      }))
    where
      at_most : (a b : ℕ) → nat_le a b ≡ true → a ≤ b
      at_most a b is = grind (arith, nat_tests)

  stores_made : (number : ℕ) → each (store_of image d.now) after_stores ≡ Some (grant number table).table.stores
  stores_made number =
      let send = sends number in
      let kept = each_at (store_of image d.now) d.stores table.stores pick.at s send.store loads.stores grants.there send.there in
      each_set (store_of image d.now) d.stores table.stores pick.at new (with_positions row send.store) loads.stores
      (store_sent image d.now pick.range s send.store kept)
      ∙ ap (λ (t : Table). Some t.stores) (sym send.moved)

  table_made : (number : ℕ) → table_by blocks image (with_stores d after_stores) ≡ Some (grant number table).table
  unfolding is_lawful
  table_made number =
      loads_table blocks image (with_stores d after_stores) (grant number table).table
      (record {
        lawful = rw (stores_lawful.1, next_lawful) refl;
        share = set_shares s new (same_identifier pick.range s) (same_size pick.range s) refl d.stores pick.at grants.there blocks ∙ loads.share;
        stores = stores_made number;
        whole =
            ap (λ (t : Table). table_with d t.stores) (sends number).moved
            ∙ ap (λ (t : Table). record t { stores = slice_set table.stores pick.at (with_positions row (sends number).store) }) loads.whole
            ∙ sym (sends number).moved;
      })

  table_goes_so : (next : Directory) (number : ℕ) → apply d (put_sent pick s.row) ≡ Some next → table_by blocks image next ≡ Some (grant number table).table
  table_goes_so next number is =
      subst (λ (x : Directory). table_by blocks image x ≡ Some (grant number table).table) (same_Some (with_stores d after_stores) next (sym applied ∙ is)) (table_made number)

  next_is : (next : Directory) → apply d (put_sent pick s.row) ≡ Some next → with_stores d after_stores ≡ next
  next_is next is = same_Some (with_stores d after_stores) next (sym applied ∙ is)

-- the laws as they are stated
module _ (blocks : ℕ) (image : ℕ → List ℕ) (table : Table) (pick : Pick) (row : Row) where
  pub row_fits : (d : Directory) → Grants blocks image d table pick row → (next : Directory) × (apply d (put_sent pick row) ≡ Some next)
  row_fits d grants =
      let found = served blocks image d table pick row grants in (
        with_stores d (slice_set d.stores pick.at (sent_listed pick.range found.store)),
        ap (λ (r : Row). apply d (put_sent pick r)) (sym found.same) ∙ applied blocks image d table pick found.store found.serves,
      )

  pub table_goes : (d next : Directory) (number : ℕ) → Grants blocks image d table pick row → apply d (put_sent pick row) ≡ Some next → table_by blocks image next ≡ Some (grant number table).table
  table_goes d next number grants is =
      let found = served blocks image d table pick row grants in
      table_goes_so blocks image d table pick found.store found.serves next number (ap (λ (r : Row). apply d (put_sent pick r)) found.same ∙ is)

  module _ (view after : View) (grants : Grants blocks image view.directory.now.directory table pick row) (renews : Renews (put_sent pick row) view after) where
    abbrev d : Directory
    d = view.directory.now.directory

    found : Served blocks image d table pick row
    found = served blocks image d table pick row grants

    abbrev next : Directory
    next = with_stores d (slice_set d.stores pick.at (sent_listed pick.range found.store))

    is : next ≡ after.directory.now.directory
    is =
        next_is blocks image d table pick found.store found.serves after.directory.now.directory
        (ap (λ (r : Row). apply d (put_sent pick r)) found.same ∙ renews.applied)

    pub view_goes : (number : ℕ) → IsTableShown table view → IsTableShown (grant number table).table after
    view_goes number shown =
        let send = sends blocks image d table pick found.store found.serves number in
        let stores = set_shown pick.range table.stores d.stores view.indexes.now pick.at send.store found.store shown.stores send.there found.serves.there in
        view_of view after (put_sent pick row) renews next is table (grant number table).table shown
        (ap (λ (t : Table). t.now) send.moved ∙ shown.now) (ap (λ (t : Table). t.reports) send.moved ∙ shown.reports)
        (ap (λ (t : Table). t.forward) send.moved ∙ shown.forward)
        (subst (λ (t : Table). AreShown t.stores next.stores view.indexes.now) (sym send.moved) stores)

    pub together_goes : AreAllTogether view.directory.now.stores view.indexes.now → AreAllTogether after.directory.now.stores after.indexes.now
    together_goes together =
        together_of view after (put_sent pick row) renews next is
        (set_together pick.range d.stores view.indexes.now pick.at found.store together found.serves.there)
