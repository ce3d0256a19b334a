-- The row of a store that was sent a packet of: it can be entered.
use Rattle.std.proofs.Common.{◌≡◌, ℕ, zero, suc, ◌+◌, ◌<◌, ◌≤◌, ◌^◌, nat_eq, nat_lt, true, false, Bool, List, [], ◌∷◌, length, slice_set, Option, None, Some, refl, sym, ◌∙◌, ap, subst, arith}
use Rattle.std.specs.Prelude.{slice_get}
use Rattle.std.proofs.lemmas.Bool.{cond_both, ltb-true}
use Rattle.std.proofs.lemmas.Option.{none-some, same_Some, slice_get_within}
use Rattle.block_pool.specs.Sizes.{blocks_for_size}
use Rattle.board.specs.Flash.{Flash}
use Rattle.image_table.proofs.Granted.{table_goes}
use Rattle.image_table.proofs.Placed.{first_own, set_few, set_reserves}
use Rattle.image_table.proofs.SentRows.{sent_lawful, untrimmed}
use Rattle.image_table.specs.Granting.{put_sent}
use Rattle.pst_model.specs.Rules.{grant, range_sent}
use Rattle.pst_model.specs.Table.{Table}
use Rattle.retrieval.proofs.Firsts.{picked_held, row_there}
use Rattle.retrieval.specs.Grants.{IsRowAt}
use Rattle.retrieval.specs.Picks.{IsNext, IsPickOf, pick_of, sent_row}
use Rattle.retrieval.specs.declared.pick.Pick.{Pick}
use Rattle.store_directory.proofs.Applied.{with-some}
use Rattle.store_directory.proofs.Places.{IsFirst, find-first, put-first}
use Rattle.store_directory.proofs.Puts.{put-is}
use Rattle.store_directory.specs.Changes.{Put, apply, listed_by, put_row}
use Rattle.store_directory.specs.Directory.{Directory, IsDirectory, IsListed, Listed, find_store, identifiers, put_store, trimmed, with_stores}
use Rattle.store_directory.specs.Rows.{FitsRow, is_lawful_row, range_end, range_next}
use Rattle.store_directory.specs.Slots.{size_of}
use Rattle.store_directory.specs.declared.row.Row.{Row}
use Rattle.store_load.specs.Kept.{begins_well}
use Rattle.time_index.specs.TimeIndex.{TimeIndex}
use Rattle.vault.proofs.EachStores.{each_store_at}
use Rattle.vault.proofs.Entered.{here}
use Rattle.vault.proofs.Loads.{all_at}
use Rattle.vault.proofs.Places.{some_at}
use Rattle.vault.proofs.Positions.{and_some, some_and}
use Rattle.vault.proofs.SameRecords.{keep_same}
use Rattle.vault.specs.Changing.{Becomes, CanBeEntered, KeepRecords, NeedsNone, SameRecords}
use Rattle.vault.specs.Fetching.{IsPosition}
use Rattle.vault.specs.Memory.{InMemory, IsSound, IsSoundStore}
use Rattle.vault.specs.Standing.{StandsFor}

keep_set : (stores : List Listed) (at : ℕ) (s new : Listed) → slice_get stores at ≡ Some s → SameRecords s new → KeepRecords stores (slice_set stores at new)
keep_set [] at s new there same = absurd (none-some s there)
keep_set (x ∷ stores) zero s new there same = (subst (λ (y : Listed). SameRecords y new) (sym (same_Some x s there)) same, keep_same stores)
keep_set (x ∷ stores) (suc at) s new there same = (record { links = refl; first = refl; count = refl; size = refl }, keep_set stores at s new there same)

-- another row of the store at a place, of the same records
module _ (d : Directory) (at : ℕ) (s : Listed) (row : Row) (kept : IsDirectory d) (there : slice_get d.stores at ≡ Some s)
    (identifier_is : row.identifier ≡ s.identifier) (first_is : row.first ≡ s.first) (count_is : row.count ≡ s.count) (size_is : row.size ≡ s.size) where
  abbrev new : Listed
  new = record { row = row; patterns = s.patterns; links = s.links }

  abbrev after : List Listed
  after = slice_set d.stores at new

  found : find_store row.identifier d.stores ≡ Some s
  found =
      ap (λ (n : ℕ). find_store n d.stores) identifier_is
      ∙ find-first s.identifier d.stores at (first_own d.stores at s kept.stores.distinct there) ∙ there

  pub put_needs_none : NeedsNone (Put row) d.stores
  put_needs_none = let same = ap size_of found in omega (arith, same, size_is)

  module _ (lawful : is_lawful_row row ≡ true) (begins : begins_well s.row s.links ≡ true) where
    put_applied : apply d (Put row) ≡ Some (with_stores d after)
    unfolding apply
    put_applied =
        let listed = all_at IsListed d.stores at s kept.stores.each there in
        let links : trimmed row.first row.count s.links ≡ s.links =
        (λ i. trimmed (first_is i) (count_is i) s.links) ∙ untrimmed s.row s.links begins in
        let made : listed_by row (find_store row.identifier d.stores) ≡ new =
        ap (listed_by row) found ∙ (λ i. record { row = row; patterns = s.patterns; links = links i }) in
        let put : put_store new d.stores ≡ after =
        put-first new d.stores at
        (subst (λ (n : ℕ). IsFirst (nat_eq n) (identifiers d.stores) at) (sym identifier_is) (first_own d.stores at s kept.stores.distinct there)) in
        let few = set_few s new identifier_is size_is refl d.stores at there in
        let reserves = set_reserves s new identifier_is size_is refl d.stores at there in
        with-some d (put_row row d.stores) after
        (put-is row d.stores new after made put
        (record {
          lawful = lawful;
          few = omega (arith, few, kept.stores.few);
          reserved = omega (arith, reserves, kept.stores.reserved);
          links = subst (λ (n : ℕ). length s.links ≤ blocks_for_size n) (sym size_is) listed.links;
        }))

    pub put_entered : CanBeEntered d (Put row)
    put_entered = (
      with_stores d after,
      put_applied,
      record {
        later = omega arith;
        stores = keep_set d.stores at s new there (record { links = refl; first = first_is; count = count_is; size = size_is });
      },
    )

-- the numbers of a row behind a packet that was sent

record SameNumbers (row next : Row) : Type 0 where
  identifier_is : next.identifier ≡ row.identifier
  first_is : next.first ≡ row.first
  count_is : next.count ≡ row.count
  size_is : next.size ≡ row.size

sent_numbers : (range : Bool) (row : Row) → SameNumbers row (sent_row range row)
sent_numbers true row = record { identifier_is = refl; first_is = refl; count_is = refl; size_is = refl }
sent_numbers false row = record { identifier_is = refl; first_is = refl; count_is = refl; size_is = refl }

-- they fit still

range_low : (limit : ℕ) (range : Option (ℕ × ℕ)) → range_next range < limit → range_end range < limit
    → (range_next (range_sent range) < limit) × (range_end (range_sent range) < limit)
range_low limit None next end = (next, end)
range_low limit (Some (next, end)) low high =
    cond_both (nat_lt (next + 1) end) (Some (next + 1, end)) None
    (λ (o : Option (ℕ × ℕ)). (range_next o < limit) × (range_end o < limit))
    (λ some. let less : next + 1 < end = ltb-true (next + 1) end some in (omega (arith, less, high), high))
    (λ none. (omega (arith, low), omega (arith, low)))

sent_fits : (range : Bool) (position : ℕ) (row : Row) → IsNext range position row → FitsRow row → FitsRow (sent_row range row)
sent_fits true position row next fits =
    let low = range_low (2 ^ 32) row.range fits.next fits.end in
    record {
      identifier = fits.identifier;
      size = fits.size;
      channel = fits.channel;
      first = fits.first;
      count = fits.count;
      behind = fits.behind;
      next = low.0;
      end = low.1;
    }
sent_fits false position row next fits =
    let ahead = next.1 in
    record {
      identifier = fits.identifier;
      size = fits.size;
      channel = fits.channel;
      first = fits.first;
      count = fits.count;
      behind = omega (arith, ahead, fits.count);
      next = fits.next;
      end = fits.end;
    }

-- the store of a pick
pub record Picked (vault : InMemory) (pick : Pick) : Type 0 where
  pub s : Listed
  pub there : slice_get vault.directory.stores pick.at ≡ Some s
  pub ahead : IsPickOf s.row pick
  pub within : pick.position < s.count
  pub index : TimeIndex
  pub has : slice_get vault.indexes pick.at ≡ Some index
  pub counts : length index.entries ≡ s.count
  pub begins : begins_well s.row s.links ≡ true
  pub listed : IsListed s

pub picked_store : (vault : InMemory) (pick : Pick) → IsSound vault → pick_of vault.directory.stores ≡ Some pick → Picked vault pick
picked_store vault pick sound picked =
    let d = vault.directory.directory in
    let (s, there, held) = and_some (λ (s : Listed). IsPickOf s.row pick × (pick.position < s.row.count)) (slice_get d.stores pick.at)
    (picked_held d.stores sound.kept.stores.each pick picked) in
    let (index, has) = some_at vault.indexes pick.at (omega (arith, slice_get_within d.stores pick.at s there, sound.as_many)) in
    let (last, is_last, store) = each_store_at (IsSoundStore d.now) d.stores vault.indexes vault.lasts pick.at s index sound.stores there has in
    record {
      s = s;
      there = there;
      ahead = held.0;
      within = held.1;
      index = index;
      has = has;
      counts = store.together.count;
      begins = store.in_place.in_range.begins;
      listed = all_at IsListed d.stores pick.at s sound.kept.stores.each there;
    }

-- its record stands at the position
pub picked_position : (vault : InMemory) (pick : Pick) → Picked vault pick → IsPosition vault pick.at pick.position
picked_position vault pick picked =
    some_and (λ (index : TimeIndex). pick.position < length index.entries) (slice_get vault.indexes pick.at) picked.index picked.has
    (omega (arith, picked.within, picked.counts))

module _ (vault : InMemory) (pick : Pick) (row : Row) (sound : IsSound vault) (picked : pick_of vault.directory.stores ≡ Some pick)
    (is : IsRowAt vault.directory.stores pick.at row) where
  abbrev d : Directory
  d = vault.directory.directory

  store : Picked vault pick
  store = picked_store vault pick sound picked

  same : row ≡ store.s.row
  same = row_there d.stores pick.at row store.s is store.there

  -- the row is that of the next packet
  pub row_ahead : IsPickOf row pick
  row_ahead = subst (λ (r : Row). IsPickOf r pick) (sym same) store.ahead

  pub row_fits : FitsRow (sent_row pick.range row)
  row_fits =
      subst (λ (r : Row). FitsRow (sent_row pick.range r)) (sym same)
      (sent_fits pick.range pick.position store.s.row store.ahead store.listed.fits)

  pub sent_needs_none : NeedsNone (put_sent pick row) d.stores
  sent_needs_none =
      subst (λ (r : Row). NeedsNone (put_sent pick r) d.stores) (sym same)
      (let numbers = sent_numbers pick.range store.s.row in
      put_needs_none d pick.at store.s (sent_row pick.range store.s.row) sound.kept store.there
      numbers.identifier_is numbers.first_is numbers.count_is numbers.size_is)

  pub sent_entered : CanBeEntered d (put_sent pick row)
  sent_entered =
      subst (λ (r : Row). CanBeEntered d (put_sent pick r)) (sym same)
      (let numbers = sent_numbers pick.range store.s.row in
      put_entered d pick.at store.s (sent_row pick.range store.s.row) sound.kept store.there
      numbers.identifier_is numbers.first_is numbers.count_is numbers.size_is
      (sent_lawful pick.range pick.position store.s.row store.ahead store.listed.lawful) store.begins)

  -- and the table behind it is that of the grant
  pub sent_becomes : (flash : Flash) (table : Table) (number : ℕ) → StandsFor vault flash table
      → Becomes vault (put_sent pick row) flash (grant number table).table
  sent_becomes flash table number stands next applied =
      table_goes vault.blocks flash.content table pick row d next number
      (record {
        pages = stands.pages;
        directory = sound.kept;
        loads = here vault flash table sound stands;
        picked = picked;
        here = is;
      })
      applied
