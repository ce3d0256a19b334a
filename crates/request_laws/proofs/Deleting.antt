-- The packets up to a time leave the front of a store.
use Rattle.std.proofs.Common.{◌≡◌, ℕ, zero, suc, ◌+◌, ◌-◌, ◌≤◌, ◌<◌, ◌^◌, ◌%◌, ◌==◌, Bool, true, false, List, [], ◌∷◌, ◌++◌, drop, map, Option, Some, None, Ok, refl, sym, ◌∙◌, ap, subst, arith}
use Rattle.std.specs.Prelude.{find, if◌then◌else◌, nat_le, nat_lt, ◌&&◌}
use Rattle.std.proofs.lemmas.Bool.{and_from, and_parts, cond-false, cond-true, cond_both, le-leb, leb-true}
use Rattle.std.proofs.lemmas.List.{drop-map, length-drop}
use Rattle.std.proofs.lemmas.Option.{none-some, same_Some}
use Rattle.board.specs.Flash.{IsContent}
use Rattle.image_table.specs.Table.{store_of, stored_of, table_by, table_rule}
use Rattle.image_table.proofs.Frames.{kept_store, loads_table, store_kept, table_loads}
use Rattle.image_table.proofs.Stores.{found_in, put_in, store_keeps}
use Rattle.pst_model.specs.Changes.{change_store, is_named, with_store}
use Rattle.pst_model.specs.Laws.{time_of}
use Rattle.pst_model.specs.Ranges as model
use Rattle.pst_model.specs.Ranges.{delete_checks, delete_up_to}
use Rattle.pst_model.specs.Table.{Store, Stored, Table, drop_front, range_behind}
use Rattle.put_laws.proofs.Applies.{put_fits_in}
use Rattle.put_laws.proofs.Spots.{put_here}
use Rattle.record_view.specs.Records.{Meaning}
use Rattle.retrieval.specs.Picks.{dropped_row}
use Rattle.store_directory.specs.Changes.{Put, listed_by}
use Rattle.store_directory.specs.Directory.{Directory, IsDirectory, IsListed, Listed, are_distinct, find_store, identifiers, put_store, with_stores, without_store}
use Rattle.store_directory.specs.Rows.{FitsRow, is_lawful_row, is_range, range_end, range_next}
use Rattle.store_directory.specs.declared.row.Row.{Row}
use Rattle.store_directory.proofs.Lawful.{lawful-from_kept}
use Rattle.store_load.specs.Claims.{may_share}
use Rattle.store_load.specs.Each.{each}
use Rattle.store_load.specs.Extents.{pages_in}
use Rattle.store_load.specs.Kept.{kept_of}
use Rattle.store_load.proofs.Counting.{kept_parts}
use Rattle.store_load.proofs.Going.{front_gone}
use Rattle.store_policy.specs.Shown.{AreAllIndexed, AreAllTogether, AreIndexed, AreTogether, length_of, octets_in}
use Rattle.time_index.specs.TimeIndex.{TimeIndex, count_up_to, stamp_of, without_first}
use Rattle.request_laws.specs.Changing.{AreListedAs, HasIndexes, IsListedAs, IsTableOf, LeavesFront, changed_for, deleted_index, deleted_row, index_for}
use Rattle.request_laws.proofs.Finding.{found_as, found_has, named_as, put_as}
use Rattle.request_laws.proofs.Holding.{store_is, whole_is}
use Rattle.request_laws.proofs.Moves.{Moves}
use Rattle.request_laws.proofs.Indexed.{IndexedAs, indexed_as, up_to_is, up_to_within}
use Rattle.request_laws.proofs.Outcomes.{was_changed, was_checked}

-- A row without so many first packets is lawful and fits, as it was and did.

range_left : (gone count : ℕ) (range : Option (ℕ × ℕ)) → is_range count range ≡ true → is_range (count - gone) (range_behind gone range) ≡ true
range_left gone count None is = refl
range_left gone count (Some (next, end)) is =
    let within : end ≤ count = leb-true end count (and_parts (nat_lt next end) (nat_le end count) is).1 in
    cond_both (nat_lt (next - gone) (end - gone)) (Some (next - gone, end - gone)) None (λ (o : Option (ℕ × ℕ)). is_range (count - gone) o ≡ true)
    (λ some. and_from (nat_lt (next - gone) (end - gone)) (nat_le (end - gone) (count - gone)) some (le-leb (end - gone) (count - gone) (omega (arith, within)))) (λ none. refl)

next_low : (gone limit : ℕ) (range : Option (ℕ × ℕ)) → range_next range < limit → range_next (range_behind gone range) < limit
next_low gone limit None low = low
next_low gone limit (Some (next, end)) low =
    cond_both (nat_lt (next - gone) (end - gone)) (Some (next - gone, end - gone)) None (λ (o : Option (ℕ × ℕ)). range_next o < limit) (λ some. omega (arith, low)) (λ none. omega (arith, low))

end_low : (gone limit : ℕ) (range : Option (ℕ × ℕ)) → range_end range < limit → range_end (range_behind gone range) < limit
end_low gone limit None low = low
end_low gone limit (Some (next, end)) low =
    cond_both (nat_lt (next - gone) (end - gone)) (Some (next - gone, end - gone)) None (λ (o : Option (ℕ × ℕ)). range_end o < limit) (λ some. omega (arith, low)) (λ none. omega (arith, low))

abbrev pub fewer : (gone : ℕ) → Row → Row
fewer gone row = record (dropped_row gone row) { told = false }

pub fewer_lawful : (row : Row) (gone : ℕ) → is_lawful_row row ≡ true → is_lawful_row (fewer gone row) ≡ true
fewer_lawful row gone lawful = whole row.size row.channel row.count row.behind row.range lawful
  where
    whole : (size channel count behind : ℕ) (range : Option (ℕ × ℕ))
        → (nat_le 1 size && nat_le size 100000 && nat_le 1 channel && nat_le channel 7 && nat_le count size && nat_le behind count && is_range count range) ≡ true
        → (nat_le 1 size && nat_le size 100000 && nat_le 1 channel && nat_le channel 7 && nat_le (count - gone) size && nat_le (behind - gone) (count - gone)
        && is_range (count - gone) (range_behind gone range)) ≡ true
    whole size channel count behind range h =
        let ranged = and_parts (nat_le 1 size && nat_le size 100000 && nat_le 1 channel && nat_le channel 7 && nat_le count size && nat_le behind count) (is_range count range) h in
        let passed = and_parts (nat_le 1 size && nat_le size 100000 && nat_le 1 channel && nat_le channel 7 && nat_le count size) (nat_le behind count) ranged.0 in
        let counted = and_parts (nat_le 1 size && nat_le size 100000 && nat_le 1 channel && nat_le channel 7) (nat_le count size) passed.0 in
        let few : count ≤ size = leb-true count size counted.1 in
        let within : behind ≤ count = leb-true behind count passed.1 in
        rw (counted.0, le-leb (count - gone) size (omega (arith, few)), le-leb (behind - gone) (count - gone) (omega (arith, within)), range_left gone count range ranged.1) refl

pub fewer_fits : (row : Row) (gone : ℕ) → FitsRow row → FitsRow (fewer gone row)
fewer_fits row gone fits = record {
  identifier = fits.identifier;
  size = fits.size;
  channel = fits.channel;
  first = omega arith;
  count = omega (arith, fits.count);
  behind = omega (arith, fits.behind);
  next = next_low gone (2 ^ 32) row.range fits.next;
  end = end_low gone (2 ^ 32) row.range fits.end;
}

-- A store among the others.

pub record Around (identifier : ℕ) (listed : List Listed) (s : Listed) : Type 0 where
  pub front : List Listed
  pub back : List Listed
  pub parted : listed ≡ front ++ s ∷ back
  pub gone : without_store identifier listed ≡ front ++ back

pub around : (identifier : ℕ) (listed : List Listed) (s : Listed) → find_store identifier listed ≡ Some s → Around identifier listed s
around identifier [] s is = absurd (none-some s is)
around identifier (l ∷ listed) s is = by (identifier == l.identifier) refl (around identifier listed s) is
  where
    by : (test : Bool) → (identifier == l.identifier) ≡ test → (find_store identifier listed ≡ Some s → Around identifier listed s)
        → (if test then Some l else find_store identifier listed) ≡ Some s → Around identifier (l ∷ listed) s
    by true same rest is = record {
      front = [];
      back = listed;
      parted = ap (λ (x : Listed). x ∷ listed) (same_Some l s is);
      gone = cond-true (identifier == l.identifier) listed (l ∷ without_store identifier listed) same;
    }
    by false other rest is =
        let deeper = rest is in
        record {
          front = l ∷ deeper.front;
          back = deeper.back;
          parted = ap (λ (x : List Listed). l ∷ x) deeper.parted;
          gone =
              cond-false (identifier == l.identifier) listed (l ∷ without_store identifier listed) other
              ∙ ap (λ (x : List Listed). l ∷ x) deeper.gone;
        }

-- The indexes behind it.

left_indexed : (gone : ℕ) (packets : List Stored) (index : TimeIndex) → AreIndexed packets index.entries → AreIndexed (drop gone packets) (without_first index gone).entries
left_indexed gone packets index indexed = record {
  times = sym (drop-map time_of gone packets) ∙ ap (drop gone) indexed.times ∙ drop-map stamp_of gone index.entries;
  lengths = sym (drop-map octets_in gone packets) ∙ ap (drop gone) indexed.lengths ∙ drop-map length_of gone index.entries;
}

pub left_together : (gone : ℕ) (row : Row) (index : TimeIndex) → AreTogether row index → AreTogether (fewer gone row) (without_first index gone)
left_together gone row index together = record {
  first = ap (λ (n : ℕ). (n + gone) % 2 ^ 32) together.first;
  count = length-drop gone index.entries ∙ ap (λ (n : ℕ). n - gone) together.count;
  size = together.size;
}

changed_indexed : (identifier : ℕ) (made store : Store) (next : TimeIndex → TimeIndex) (stores : List Store) (listed : List Listed) (indexes : List TimeIndex)
    → AreListedAs stores listed → AreAllIndexed stores indexes → find (is_named identifier) stores ≡ Some store
    → (AreIndexed store.packets (index_for identifier listed indexes).entries → AreIndexed made.packets (next (index_for identifier listed indexes)).entries)
    → AreAllIndexed (with_store identifier made stores) (changed_for identifier next listed indexes)
changed_indexed identifier made store next [] [] indexes are all is goes = absurd (none-some store is)
changed_indexed identifier made store next (x ∷ stores) (l ∷ listed) (index ∷ indexes) are all is goes =
    by (is_named identifier x) refl (changed_indexed identifier made store next stores listed indexes are.1 all.1)
  where
    by : (test : Bool) → is_named identifier x ≡ test
        → (find (is_named identifier) stores ≡ Some store
        → (AreIndexed store.packets (index_for identifier listed indexes).entries → AreIndexed made.packets (next (index_for identifier listed indexes)).entries)
        → AreAllIndexed (with_store identifier made stores) (changed_for identifier next listed indexes))
        → AreAllIndexed (with_store identifier made (x ∷ stores)) (changed_for identifier next (l ∷ listed) (index ∷ indexes))
    by true named rest =
        let same = named_as identifier x l true are.0 named in
        let this : x ≡ store = same_Some x store (sym (cond-true (is_named identifier x) (Some x) (find (is_named identifier) stores) named) ∙ is) in
        let own : index_for identifier (l ∷ listed) (index ∷ indexes) ≡ index = cond-true (identifier == l.identifier) index (index_for identifier listed indexes) same in
        rw (named, same) (
          subst (λ (i : TimeIndex). AreIndexed store.packets i.entries → AreIndexed made.packets (next i).entries) own goes
              (subst (λ (y : Store). AreIndexed y.packets index.entries) this all.0),
          all.1,
        )
    by false named rest =
        let other = named_as identifier x l false are.0 named in
        let own : index_for identifier (l ∷ listed) (index ∷ indexes) ≡ index_for identifier listed indexes =
        cond-false (identifier == l.identifier) index (index_for identifier listed indexes) other in
        rw (named, other) (
          all.0,
          rest (sym (cond-false (is_named identifier x) (Some x) (find (is_named identifier) stores) named) ∙ is)
              (subst (λ (i : TimeIndex). AreIndexed store.packets i.entries → AreIndexed made.packets (next i).entries) own goes),
        )
changed_indexed identifier made store next [] (l ∷ listed) indexes are all is goes = absurd are
changed_indexed identifier made store next (x ∷ stores) [] indexes are all is goes = absurd are
changed_indexed identifier made store next (x ∷ stores) (l ∷ listed) [] are all is goes = absurd all

changed_together : (new s : Listed) (next : TimeIndex → TimeIndex) (listed : List Listed) (indexes : List TimeIndex) → AreAllTogether listed indexes
    → find_store new.identifier listed ≡ Some s
    → (AreTogether s.row (index_for new.identifier listed indexes) → AreTogether new.row (next (index_for new.identifier listed indexes)))
    → AreAllTogether (put_store new listed) (changed_for new.identifier next listed indexes)
changed_together new s next [] indexes all is goes = absurd (none-some s is)
changed_together new s next (l ∷ listed) [] all is goes = absurd all
changed_together new s next (l ∷ listed) (index ∷ indexes) all is goes =
    by (new.identifier == l.identifier) refl (changed_together new s next listed indexes all.1)
  where
    by : (test : Bool) → (new.identifier == l.identifier) ≡ test
        → (find_store new.identifier listed ≡ Some s
        → (AreTogether s.row (index_for new.identifier listed indexes) → AreTogether new.row (next (index_for new.identifier listed indexes)))
        → AreAllTogether (put_store new listed) (changed_for new.identifier next listed indexes))
        → AreAllTogether (put_store new (l ∷ listed)) (changed_for new.identifier next (l ∷ listed) (index ∷ indexes))
    by true same rest =
        let this : l ≡ s = same_Some l s (sym (cond-true (new.identifier == l.identifier) (Some l) (find_store new.identifier listed) same) ∙ is) in
        let own : index_for new.identifier (l ∷ listed) (index ∷ indexes) ≡ index = cond-true (new.identifier == l.identifier) index (index_for new.identifier listed indexes) same in
        rw same
        (subst (λ (i : TimeIndex). AreTogether s.row i → AreTogether new.row (next i)) own goes (subst (λ (y : Listed). AreTogether y.row index) this all.0), all.1)
    by false other rest =
        let own : index_for new.identifier (l ∷ listed) (index ∷ indexes) ≡ index_for new.identifier listed indexes =
        cond-false (new.identifier == l.identifier) index (index_for new.identifier listed indexes) other in
        rw other (
          all.0,
          rest (sym (cond-false (new.identifier == l.identifier) (Some l) (find_store new.identifier listed) other) ∙ is)
              (subst (λ (i : TimeIndex). AreTogether s.row i → AreTogether new.row (next i)) own goes),
        )

-- the pages of records without the first ones
pub pages_left : (gone : ℕ) (records : List Meaning) → pages_in (drop gone records) ≤ pages_in records
pages_left zero records = omega arith
pages_left (suc gone) [] = omega arith
pages_left (suc gone) (meaning ∷ records) = omega (arith, pages_left gone records)

drop_stored : (gone : ℕ) (records : List Meaning) → map stored_of (drop gone records) ≡ drop gone (map stored_of records)
drop_stored gone records = sym (drop-map stored_of gone records)

module _ (blocks : ℕ) (d : Directory) (table : Table) (indexes : List TimeIndex) (directory : IsDirectory d) (share : may_share 240 blocks d.stores ≡ true)
    (is_of : IsTableOf table d) (has : HasIndexes table d indexes) (identifier t : ℕ) (store : Store) (s : Listed)
    (there : find (is_named identifier) table.stores ≡ Some store) (found : find_store identifier d.stores ≡ Some s) (own : s.identifier ≡ identifier) (alike : IsListedAs store s) where
  abbrev index : TimeIndex
  index = index_for identifier d.stores indexes

  abbrev gone : ℕ
  gone = count_up_to index.entries t

  indexed : IndexedAs index store s
  indexed = indexed_as identifier table.stores d.stores indexes store s is_of.stores has.packets has.together there found

  abbrev row : Row
  row = deleted_row t index s.row

  abbrev new : Listed
  new = listed_by row (Some s)

  abbrev made : Store
  made = record (drop_front store (model.count_up_to t store.packets)) { told = false }

  many : model.count_up_to t store.packets ≡ gone
  many = up_to_is index store s indexed t

  listed : IsListed s
  listed = found_has IsListed identifier d.stores s directory.stores.each found

  is_as : IsListedAs made new
  is_as = record {
    identifier = alike.identifier;
    kind = alike.kind;
    size = alike.size;
    channel = alike.channel;
    storage = alike.storage;
    open_on = alike.open_on;
    told = refl;
    behind = λ i. alike.behind i - many i;
    range = λ i. range_behind (many i) (alike.range i);
    patterns = alike.patterns;
  }

  abbrev after : Directory
  after = with_stores d (put_store new d.stores)

  found_here : find_store new.identifier d.stores ≡ Some s
  found_here = ap (λ (n : ℕ). find_store n d.stores) own ∙ found

  -- each image that held the table

  module _ (image : ℕ → List ℕ) (pages : IsContent blocks image) (held : table_by blocks image d ≡ Some table) where
    store_left : store_of image d.now s ≡ Some store → store_of image d.now new ≡ Some made
    store_left is =
        let (records, kept, whole) = store_kept image d.now s store is in
        let keeps = store_keeps blocks image d identifier d.now s records pages directory share found kept in
        let fits : pages_in records ≤ s.size = leb-true (pages_in records) s.size (kept_parts table_rule image d.now s.row s.links records kept).fits in
        let left : kept_of table_rule image d.now new.row new.links ≡ Some (drop gone records) =
        front_gone table_rule blocks image d.now d.now s.row s.links records gone row keeps (omega arith)
        (record { few = up_to_within index store s indexed t; first = refl; count = omega arith }) (omega (arith, fits, pages_left gone records)) in
        kept_store image d.now new (drop gone records) left
        ∙ ap Some
        (store_is new (drop gone records) made is_as
        (ap (λ (n : ℕ). drop n store.packets) many ∙ ap (λ (x : Store). drop gone x.packets) (sym whole) ∙ sym (drop_stored gone records)))

    held_after : IsDirectory after → may_share 240 blocks after.stores ≡ true → IsTableOf (record table { stores = with_store identifier made table.stores }) after
        → table_by blocks image after ≡ Some (record table { stores = with_store identifier made table.stores })
    held_after kept shared of_it =
        let loads = table_loads blocks image d table held in
        let at = found_in image d.now identifier d.stores table.stores s loads.stores found in
        let same : at.store ≡ store = same_Some at.store store (sym at.found ∙ there) in
        let left = store_left (at.is ∙ ap Some same) in
        let stores : each (store_of image d.now) after.stores ≡ Some (with_store new.identifier made table.stores) =
        put_in image d.now new made d.stores table.stores s loads.stores found_here left in
        loads_table blocks image after (record table { stores = with_store identifier made table.stores })
        (record {
          lawful = lawful-from_kept after kept;
          share = shared;
          stores = stores ∙ ap (λ (n : ℕ). Some (with_store n made table.stores)) own;
          whole = whole_is after (record table { stores = with_store identifier made table.stores }) of_it;
        })

  pub moved : Moves blocks d table (record table { stores = with_store identifier made table.stores }) (λ (next : Directory). LeavesFront identifier t d indexes next)
      (Put row) (changed_for identifier (deleted_index t) d.stores indexes)
  moved =
      let place = around identifier d.stores s found in
      let fit = put_fits_in blocks d directory share place.front s place.back place.parted row refl refl (fewer_lawful s.row gone listed.lawful) (fewer_fits s.row gone listed.fits) in
      let put : place.front ++ new ∷ place.back ≡ put_store new d.stores = placed place in
      let kept : IsDirectory after = subst (λ (l : List Listed). IsDirectory (with_stores d l)) put fit.directory in
      let shared : may_share 240 blocks after.stores ≡ true = subst (λ (l : List Listed). may_share 240 blocks l ≡ true) put fit.share in
      let of_it : IsTableOf (record table { stores = with_store identifier made table.stores }) after = record {
        now = is_of.now;
        reports = is_of.reports;
        forward = is_of.forward;
        stores =
            subst (λ (n : ℕ). AreListedAs (with_store n made table.stores) after.stores) own
            (put_as made new table.stores d.stores s is_of.stores found_here is_as);
      } in
      record {
        next = after;
        applied = fit.applied ∙ ap (λ (l : List Listed). Some (with_stores d l)) put;
        fits = fewer_fits s.row gone listed.fits;
        can_be_written = tt;
        in_range = tt;
        short = omega arith;
        directory = kept;
        share = shared;
        step = record { s = s; found = found; stores = refl };
        is_of = of_it;
        now = refl;
        reports = refl;
        has = record {
          packets =
              changed_indexed identifier made store (deleted_index t) table.stores d.stores indexes is_of.stores has.packets there
              (λ before. subst (λ (n : ℕ). AreIndexed (drop n store.packets) (without_first index gone).entries) (sym many) (left_indexed gone store.packets index before));
          together =
              subst (λ (n : ℕ). AreAllTogether after.stores (changed_for n (deleted_index t) d.stores indexes)) own
              (changed_together new s (deleted_index t) d.stores indexes has.together found_here
              (subst (λ (n : ℕ). AreTogether s.row (index_for n d.stores indexes) → AreTogether new.row (deleted_index t (index_for n d.stores indexes))) (sym own)
              (left_together gone s.row index)));
        };
        held = λ image pages held. held_after image pages held kept shared of_it;
      }
    where
      placed : (place : Around identifier d.stores s) → place.front ++ new ∷ place.back ≡ put_store new d.stores
      placed place = sym (ap (put_store new) place.parted ∙ put_here s place.back new refl place.front (ap (λ (l : List Listed). are_distinct (identifiers l)) (sym place.parted) ∙ directory.stores.distinct))

-- The packets of a store with times of at most t leave its front.
pub record Deletes (blocks : ℕ) (d : Directory) (table made : Table) (indexes : List TimeIndex) (identifier t : ℕ) : Type 0 where
  pub s : Listed
  pub found : find_store identifier d.stores ≡ Some s
  pub moves : Moves blocks d table made (λ (next : Directory). LeavesFront identifier t d indexes next) (Put (deleted_row t (index_for identifier d.stores indexes) s.row))
      (changed_for identifier (deleted_index t) d.stores indexes)

pub deletes : (blocks : ℕ) (d : Directory) (table made : Table) (indexes : List TimeIndex) (identifier t : ℕ) → IsDirectory d → may_share 240 blocks d.stores ≡ true
    → IsTableOf table d → HasIndexes table d indexes → change_store identifier table (delete_up_to t) ≡ Ok made → Deletes blocks d table made indexes identifier t
deletes blocks d table made indexes identifier t directory share is_of has ok =
    let went = was_changed identifier table made (delete_up_to t) ok in
    let there = found_as identifier table.stores d.stores went.store is_of.stores went.found in
    let after : Store = record (drop_front went.store (model.count_up_to t went.store.packets)) { told = false } in
    let is = was_checked (delete_checks went.store) after went.next went.changed in
    record {
      s = there.s;
      found = there.found;
      moves =
          subst
          (λ (x : Table). Moves blocks d table x (λ (next : Directory). LeavesFront identifier t d indexes next) (Put (deleted_row t (index_for identifier d.stores indexes) there.s.row))
          (changed_for identifier (deleted_index t) d.stores indexes))
          (ap (λ (x : Store). record table { stores = with_store identifier x table.stores }) is.made_is ∙ went.made_is)
          (moved blocks d table indexes directory share is_of has identifier t went.store there.s went.found there.found there.own there.is);
    }
