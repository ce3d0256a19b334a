-- Indexes while a packet is offered to stores.
use Rattle.std.proofs.Common.{◌≡◌, ℕ, zero, suc, ◌+◌, ◌%◌, ◌^◌, false, List, [], ◌∷◌, ◌++◌, length, map, drop, slice_set, Some, length-append, sym, ◌∙◌, ap, subst, arith}
use Rattle.std.specs.Prelude.{slice_get}
use Rattle.std.proofs.lemmas.List.{drop-map, length-drop, length-map, map-append}
use Rattle.std.proofs.lemmas.Option.{none-some, same_Some}
use Rattle.image_table.specs.Table.{store_of, store_with, table_by}
use Rattle.image_table.proofs.Frames.{store_kept, table_loads}
use Rattle.pst_model.specs.Arrivals.{is_offered, offered}
use Rattle.pst_model.specs.Laws.{time_of}
use Rattle.pst_model.specs.Table.{Store, Stored, Table}
use Rattle.record_view.specs.Records.{Meaning}
use Rattle.store_directory.specs.Directory.{Listed}
use Rattle.store_directory.specs.declared.row.Row.{Row}
use Rattle.store_load.specs.Each.{each}
use Rattle.store_load.proofs.Eachs.{each_cons}
use Rattle.store_policy.specs.Shown.{AreAllIndexed, AreAllTogether, AreIndexed, AreShown, AreTogether, IsStoreShown, IsTableShown, length_of, octets_in}
use Rattle.store_policy.specs.declared.view.View.{View}
use Rattle.time_index.specs.TimeIndex.{TimeIndex, stamp_of}
use Rattle.time_index.specs.declared.entry.Entry.{Entry}
use Rattle.put_laws.specs.Indexes.{AreIndexedAt, IsEntryOf, index_behind_put}
use Rattle.put_laws.specs.Puts.{Accepts, Refuses, row_behind_put, told_row}
use Rattle.put_laws.specs.Walks.{offered_to}
use Rattle.put_laws.proofs.Contents.{taking}
use Rattle.put_laws.proofs.Spots.{offered_here, offered_next, spot}
use Rattle.put_laws.proofs.Staying.{not_offered, refusal}

-- to what is shown

store_shown : (s : Listed) (records : List Meaning) (store : Store) (index : TimeIndex) → store_with s records ≡ store → AreIndexed store.packets index.entries
    → IsStoreShown store s index
store_shown s records store index whole packets = record {
  shown = record {
    identifier = sym (ap (λ (x : Store). x.identifier) whole);
    kind = sym (ap (λ (x : Store). x.kind) whole);
    size = sym (ap (λ (x : Store). x.size) whole);
    channel = sym (ap (λ (x : Store). x.channel) whole);
    storage = sym (ap (λ (x : Store). x.storage) whole);
    open_on = sym (ap (λ (x : Store). x.open_on) whole);
    told = sym (ap (λ (x : Store). x.told) whole);
    behind = sym (ap (λ (x : Store). x.behind) whole);
    range = sym (ap (λ (x : Store). x.range) whole);
    packets = packets;
  };
  patterns = sym (ap (λ (x : Store). x.patterns) whole);
}

indexed_shown : (image : ℕ → List ℕ) (now : ℕ) (listed : List Listed) (stores : List Store) (indexes : List TimeIndex)
    → each (store_of image now) listed ≡ Some stores → AreAllIndexed stores indexes → AreShown stores listed indexes
indexed_shown image now [] [] [] are all = tt
indexed_shown image now [] [] (index ∷ indexes) are all = absurd all
indexed_shown image now [] (store ∷ stores) indexes are all = absurd (omega (arith, ap length (same_Some [] (store ∷ stores) are)))
indexed_shown image now (s ∷ listed) [] indexes are all =
    let (store, rest, here, behind, whole) = each_cons (store_of image now) s listed [] are in absurd (omega (arith, ap length whole))
indexed_shown image now (s ∷ listed) (store ∷ stores) [] are all = absurd all
indexed_shown image now (s ∷ listed) (store ∷ stores) (index ∷ indexes) are all =
    let (first, rest, here, behind, whole) = each_cons (store_of image now) s listed (store ∷ stores) are in
    let same : first ≡ store = head first rest store stores whole in
    let tails : rest ≡ stores = ap (drop 1) whole in
    let (records, kept, made) = store_kept image now s first here in
    (store_shown s records store index (made ∙ same) all.0, indexed_shown image now listed stores indexes (behind ∙ ap Some tails) all.1)
  where
    head : (a : Store) (xs : List Store) (b : Store) (ys : List Store) → a ∷ xs ≡ b ∷ ys → a ≡ b
    head a xs b ys is = same_Some a b (ap (λ (l : List Store). slice_get l 0) is)

pub table_shown : (blocks : ℕ) (image : ℕ → List ℕ) (table : Table) (view : View)
    → table_by blocks image view.directory.now.directory ≡ Some table → AreAllIndexed table.stores view.indexes.now → IsTableShown table view
table_shown blocks image table view is all =
    let loads = table_loads blocks image view.directory.now.directory table is in
    record {
      now = sym (ap (λ (t : Table). t.now) loads.whole);
      reports = sym (ap (λ (t : Table). t.reports) loads.whole);
      forward = sym (ap (λ (t : Table). t.forward) loads.whole);
      stores = indexed_shown image view.directory.now.now view.directory.now.stores table.stores view.indexes.now loads.stores all;
    }

-- one store's packets

pub taken_indexed : (stored : Stored) (store : Store) (gone : ℕ) (entry : Entry) (index : TimeIndex) → Accepts store stored gone → IsEntryOf stored entry
    → AreIndexed store.packets index.entries → AreIndexed (offered stored store).packets (index_behind_put gone entry index).entries
taken_indexed stored store gone entry index accepts is indexed =
    subst (λ (x : Store). AreIndexed x.packets (index_behind_put gone entry index).entries) (sym (taking stored store gone accepts))
    (record {
      times = both time_of stamp_of indexed.times (sym is.stamp);
      lengths = both octets_in length_of indexed.lengths (sym is.length);
    })
  where
    both : (f : Stored → ℕ) (g : Entry → ℕ) → map f store.packets ≡ map g index.entries → f stored ≡ g entry
        → map f (drop gone store.packets ++ stored ∷ []) ≡ map g (drop gone index.entries ++ entry ∷ [])
    both f g same last =
        map-append f (drop gone store.packets) (stored ∷ [])
        ∙ ap (λ (l : List ℕ). l ++ f stored ∷ []) (sym (drop-map f gone store.packets) ∙ ap (drop gone) same ∙ drop-map g gone index.entries)
        ∙ ap (λ (n : ℕ). map g (drop gone index.entries) ++ n ∷ []) last
        ∙ sym (map-append g (drop gone index.entries) (entry ∷ []))

-- one store among others

all_at : (front : List Store) (store : Store) (back : List Store) (indexes : List TimeIndex) (index : TimeIndex) → AreAllIndexed (front ++ store ∷ back) indexes
    → slice_get indexes (length front) ≡ Some index → (new : Store) (after : TimeIndex)
    → (AreIndexed store.packets index.entries → AreIndexed new.packets after.entries)
    → AreAllIndexed (front ++ new ∷ back) (slice_set indexes (length front) after)
all_at [] store back [] index all here new after goes = absurd all
all_at [] store back (first ∷ indexes) index all here new after goes =
    (goes (subst (λ (i : TimeIndex). AreIndexed store.packets i.entries) (same_Some first index here) all.0), all.1)
all_at (x ∷ front) store back [] index all here new after goes = absurd all
all_at (x ∷ front) store back (first ∷ indexes) index all here new after goes = (all.0, all_at front store back indexes index all.1 here new after goes)

all_same : (front : List Store) (store : Store) (back : List Store) (indexes : List TimeIndex) → AreAllIndexed (front ++ store ∷ back) indexes
    → (new : Store) → new.packets ≡ store.packets → AreAllIndexed (front ++ new ∷ back) indexes
all_same [] store back [] all new same = absurd all
all_same [] store back (index ∷ indexes) all new same = (subst (λ (l : List Stored). AreIndexed l index.entries) (sym same) all.0, all.1)
all_same (x ∷ front) store back [] all new same = absurd all
all_same (x ∷ front) store back (index ∷ indexes) all new same = (all.0, all_same front store back indexes all.1 new same)

module _ (stored : Stored) (at : ℕ) (table : Table) (indexes : List TimeIndex) (store : Store) (all : AreIndexedAt stored at table indexes)
    (shown : slice_get table.stores at ≡ Some store) where
  before : (front back : List Store) → table.stores ≡ front ++ store ∷ back → length front ≡ at
      → offered_to stored at table.stores ≡ map (offered stored) front ++ store ∷ back
  before front back parted long =
      ap (λ (n : ℕ). offered_to stored n table.stores) (sym long) ∙ ap (offered_to stored (length front)) parted ∙ offered_here stored front store back

  after : (front back : List Store) → table.stores ≡ front ++ store ∷ back → length front ≡ at
      → offered_to stored (at + 1) table.stores ≡ map (offered stored) front ++ offered stored store ∷ back
  after front back parted long =
      let more : at + 1 ≡ suc (length front) = omega (arith, long) in
      ap (λ (n : ℕ). offered_to stored n table.stores) more ∙ ap (offered_to stored (suc (length front))) parted ∙ offered_next stored front store back

  pub same_indexed : (offered stored store).packets ≡ store.packets → AreIndexedAt stored (at + 1) table indexes
  same_indexed same =
      let there = spot table.stores at store shown in
      subst (λ (l : List Store). AreAllIndexed l indexes) (sym (after there.front there.back there.parted there.long))
      (all_same (map (offered stored) there.front) store there.back indexes
      (subst (λ (l : List Store). AreAllIndexed l indexes) (before there.front there.back there.parted there.long) all)
      (offered stored store) same)

  pub more_indexed : (index : TimeIndex) (gone : ℕ) (entry : Entry) → slice_get indexes at ≡ Some index → Accepts store stored gone → IsEntryOf stored entry
      → AreIndexedAt stored (at + 1) table (slice_set indexes at (index_behind_put gone entry index))
  more_indexed index gone entry here accepts is =
      let there = spot table.stores at store shown in
      let long : length (map (offered stored) there.front) ≡ at = length-map there.front (offered stored) ∙ there.long in
      let next = index_behind_put gone entry index in
      let all_next =
      all_at (map (offered stored) there.front) store there.back indexes index
      (subst (λ (l : List Store). AreAllIndexed l indexes) (before there.front there.back there.parted there.long) all)
      (ap (slice_get indexes) long ∙ here) (offered stored store) next (taken_indexed stored store gone entry index accepts is) in
      subst (λ (l : List Store). AreAllIndexed l (slice_set indexes at next)) (sym (after there.front there.back there.parted there.long))
      (subst (λ (n : ℕ). AreAllIndexed (map (offered stored) there.front ++ offered stored store ∷ there.back) (slice_set indexes n next)) long all_next)

pub unoffered_indexed : (stored : Stored) (at : ℕ) (table : Table) (indexes : List TimeIndex) (store : Store) → AreIndexedAt stored at table indexes
    → slice_get table.stores at ≡ Some store → is_offered stored.octets store ≡ false → AreIndexedAt stored (at + 1) table indexes
unoffered_indexed stored at table indexes store all shown is =
    same_indexed stored at table indexes store all shown (ap (λ (x : Store). x.packets) (not_offered stored store is))

pub refused_indexed : (stored : Stored) (at : ℕ) (table : Table) (indexes : List TimeIndex) (store : Store) → AreIndexedAt stored at table indexes
    → slice_get table.stores at ≡ Some store → Refuses store stored → AreIndexedAt stored (at + 1) table indexes
refused_indexed stored at table indexes store all shown refuses =
    same_indexed stored at table indexes store all shown (ap (λ (x : Store). x.packets) (refusal stored store refuses))

-- a row and its index

told_together : (row : Row) (index : TimeIndex) → AreTogether row index → AreTogether (told_row row) index
told_together row index together = record { first = together.first; count = together.count; size = together.size }

taken_together : (row : Row) (index : TimeIndex) (gone : ℕ) (entry : Entry) → AreTogether row index
    → AreTogether (row_behind_put gone row) (index_behind_put gone entry index)
taken_together row index gone entry together = record {
  first = ap (λ (n : ℕ). (n + gone) % 2 ^ 32) together.first;
  count = length-append (drop gone index.entries) (entry ∷ []) ∙ omega (arith, length-drop gone index.entries, together.count);
  size = together.size;
}

-- and those of all stores

pub all_told : (listed : List Listed) (indexes : List TimeIndex) (at : ℕ) (s new : Listed) → AreAllTogether listed indexes → slice_get listed at ≡ Some s
    → new.row ≡ told_row s.row → AreAllTogether (slice_set listed at new) indexes
all_told [] indexes at s new all here row = absurd (none-some s here)
all_told (x ∷ listed) [] at s new all here row = absurd all
all_told (x ∷ listed) (index ∷ indexes) zero s new all here row =
    (subst (λ (r : Row). AreTogether r index) (sym row) (told_together s.row index (subst (λ (y : Listed). AreTogether y.row index) (same_Some x s here) all.0)), all.1)
all_told (x ∷ listed) (index ∷ indexes) (suc at) s new all here row = (all.0, all_told listed indexes at s new all.1 here row)

pub all_taken : (listed : List Listed) (indexes : List TimeIndex) (at : ℕ) (s new : Listed) (index : TimeIndex) (gone : ℕ) (entry : Entry) → AreAllTogether listed indexes
    → slice_get listed at ≡ Some s → slice_get indexes at ≡ Some index → new.row ≡ row_behind_put gone s.row
    → AreAllTogether (slice_set listed at new) (slice_set indexes at (index_behind_put gone entry index))
all_taken [] indexes at s new index gone entry all here there row = absurd (none-some s here)
all_taken (x ∷ listed) [] at s new index gone entry all here there row = absurd all
all_taken (x ∷ listed) (first ∷ indexes) zero s new index gone entry all here there row =
    let own : AreTogether s.row first = subst (λ (y : Listed). AreTogether y.row first) (same_Some x s here) all.0 in
    let together : AreTogether s.row index = subst (AreTogether s.row) (same_Some first index there) own in
    (subst (λ (r : Row). AreTogether r (index_behind_put gone entry index)) (sym row) (taken_together s.row index gone entry together), all.1)
all_taken (x ∷ listed) (first ∷ indexes) (suc at) s new index gone entry all here there row =
    (all.0, all_taken listed indexes at s new index gone entry all.1 here there row)
