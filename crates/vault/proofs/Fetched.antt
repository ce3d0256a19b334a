-- The record at a position of a store, and the packet of the table there.
use Rattle.std.proofs.Common.{◌≡◌, ℕ, zero, suc, List, [], ◌∷◌, length, map, Option, Some, Err, refl, sym, ◌∙◌, ap, subst, arith}
use Rattle.std.specs.Prelude.{slice_get}
use Rattle.std.specs.Option.{IsSomeAnd, option_map}
use Rattle.std.proofs.lemmas.Option.{none-some, same_Some, slice_get-map, slice_get_within}
use Rattle.board.specs.Flash.{Flash}
use Rattle.chain_log.specs.Pages.{block_octets}
use Rattle.chain_log.specs.declared.place.LoadFault.{LoadFault}
use Rattle.chain_log.specs.declared.place.LoadFault.TheVariants as loads
use Rattle.chain_log.specs.declared.place.Place.{Place}
use Rattle.image_table.proofs.Frames.{store_kept, table_loads}
use Rattle.image_table.specs.Table.{store_of, stored_of, table_by, table_of, table_rule}
use Rattle.meta_journal.specs.Directories.{directory_of}
use Rattle.pst_model.specs.Table.{Store, Stored, Table}
use Rattle.record_view.specs.Records.{Meaning, record_at}
use Rattle.store_directory.specs.Directory.{Directory, IsListed}
use Rattle.store_directory.specs.Options.{◌>>=◌}
use Rattle.store_load.specs.Each.{each}
use Rattle.store_load.proofs.Eachs.{each_cons}
use Rattle.time_index.specs.TimeIndex.{TimeIndex}
use Rattle.vault.proofs.EachStores.{each_store_at}
use Rattle.vault.proofs.Loads.{all_at, own_at}
use Rattle.vault.proofs.Places.{some_at}
use Rattle.vault.proofs.Positions.{IsThere, and_some, some_and}
use Rattle.store_load.proofs.Spelled.{spelled_there}
use Rattle.vault.specs.Fetching.{HasPacket, Holds, IsRecordAt, KeepsRecord, vault_fault_of}
use Rattle.vault.specs.Memory.{InMemory, IsSound}
use Rattle.vault.specs.Standing.{IsStoreOf, StandsFor}

-- the table of a directory that an image holds
pub by_directory : (blocks : ℕ) (image : ℕ → List ℕ) (d : Directory) (table : Table) → directory_of blocks image ≡ Some d
    → table_of blocks image ≡ Some table → table_by blocks image d ≡ Some table
unfolding table_of
by_directory blocks image d table is holds = sym (ap (λ (found : Option Directory). found >>= table_by blocks image) is) ∙ holds

-- the answer for an element
answer_at : {A B : Type 0} (f : A → Option B) (xs : List A) (ys : List B) (at : ℕ) (x : A) → each f xs ≡ Some ys → slice_get xs at ≡ Some x
    → (y : B) × (slice_get ys at ≡ Some y) × (f x ≡ Some y)
answer_at f [] ys at x all is = absurd (none-some x is)
answer_at f (a ∷ xs) ys zero x all is =
    let (y, zs, here, behind, whole) = each_cons f a xs ys all in
    (y, ap (λ l. slice_get l 0) (sym whole), ap f (sym (same_Some a x is)) ∙ here)
answer_at f (a ∷ xs) ys (suc at) x all is =
    let (y, zs, here, behind, whole) = each_cons f a xs ys all in
    let (found, there, answer) = answer_at f xs zs at x behind is in
    (found, ap (λ l. slice_get l (suc at)) (sym whole) ∙ there, answer)

-- a packet of the table, by its store
packet_of : (table : Table) (at position : ℕ) (store : Store) (records : List Meaning) (m : Meaning) → slice_get table.stores at ≡ Some store
    → store.packets ≡ map stored_of records → slice_get records position ≡ Some m → HasPacket table at position m.stamp m.packet
packet_of table at position store records m is packets here =
    some_and (λ (store : Store). IsSomeAnd (slice_get store.packets position) IsThis) (slice_get table.stores at) store is
    (some_and IsThis (slice_get store.packets position) (stored_of m)
    (ap (λ (l : List Stored). slice_get l position) packets ∙ slice_get-map stored_of records position ∙ ap (option_map stored_of) here) (refl, refl))
  where
    IsThis : Stored → Type 0
    IsThis stored = (m.stamp ≡ stored.time) × (m.packet ≡ stored.octets)

-- what is spelled at the place of a record, and the table's packet
pub record Found (table : Table) (flash : Flash) (at position : ℕ) (place : Place) (number : ℕ) : Type 0 where
  pub meaning : Meaning
  pub spelled : record_at (block_octets flash.content place.block) number place.page ≡ Some meaning
  pub long : length meaning.packet ≡ place.length
  pub has : HasPacket table at position meaning.stamp meaning.packet

pub found_there : (vault : InMemory) (flash : Flash) (table : Table) (at position : ℕ) (place : Place) (number : ℕ) → StandsFor vault flash table
    → IsSound vault → IsRecordAt vault at position place number → Found table flash at position place number
found_there vault flash table at position place number stands sound there =
    let d = vault.directory.directory in
    let content = flash.content in
    let (index, is, at_index) = and_some (λ (index : TimeIndex). IsSomeAnd (slice_get index.entries position) (IsThere position place number index))
    (slice_get vault.indexes at) there in
    let (entry, here, parts) = and_some (IsThere position place number index) (slice_get index.entries position) at_index in
    let at_place : Place = record { block = entry.block; page = entry.page; length = entry.length } in
    let same_place : at_place ≡ place = sym parts.0 in
    let within = slice_get_within vault.indexes at index is in
    let (s, listed) = some_at d.stores at (omega (arith, within, sound.as_many)) in
    let P = IsStoreOf flash d.now in
    let (last, is_last, store_is) = each_store_at P d.stores vault.indexes vault.lasts at s index stands.stores listed is in
    let loads = table_loads vault.blocks content d table (by_directory vault.blocks content d table stands.directory stands.holds) in
    let (store, is_store, answer) = answer_at (store_of content d.now) d.stores table.stores at s loads.stores listed in
    let (records, kept, whole) = store_kept content d.now s store answer in
    let keeps = all_at IsListed d.stores at s sound.kept.stores.each listed in
    let own = own_at vault.blocks d.stores at s sound.share listed in
    let (m, at_m, spelled, long) = spelled_there table_rule vault.blocks content d.now s.row s.links index records position entry
    (λ k default lt. record { block = own k default lt; first = (keeps.fitting k default lt).1 }) keeps.fits.first store_is.index_is kept here in
    record {
      meaning = m;
      spelled =
          subst (λ (p : Place). record_at (block_octets content p.block) number p.page ≡ Some m) {x = at_place} same_place
          (subst (λ (n : ℕ). record_at (block_octets content entry.block) n entry.page ≡ Some m) (sym parts.1) spelled);
      long = sym long ∙ ap (λ (p : Place). p.length) {x = at_place} same_place;
      has = packet_of table at position store records m is_store (ap (λ (x : Store). x.packets) (sym whole)) at_m;
    }

-- nothing differs
pub err_holds : (table : Table) (at position : ℕ) (meaning held : Meaning) (fault : LoadFault) → KeepsRecord {A = ℕ} meaning (Err fault) held
    → Holds {A = ℕ} table at position (Err (vault_fault_of fault)) held
err_holds table at position meaning held loads.Flash h = tt
err_holds table at position meaning held (loads.Mismatch block page kept found) h = absurd h
