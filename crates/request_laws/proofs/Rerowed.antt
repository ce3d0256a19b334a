-- Each way in which an instruction puts another row of a store.
use Rattle.std.proofs.Common.{◌≡◌, ℕ, ◌<◌, ◌≤◌, ◌^◌, ◌&&◌, Bool, true, false, Option, Some, None, refl, arith}
use Rattle.std.specs.Prelude.{All, find, nat_le, nat_lt}
use Rattle.std.proofs.lemmas.Bool.{and_from, and_parts, cond_both, le-leb}
use Rattle.std.proofs.lemmas.Bool.Decides.{nat_tests}
use Rattle.control_defs.specs.declared.instructions.StoreKind.{StoreKind}
use Rattle.pst_model.specs.Changes.{is_named, with_store}
use Rattle.pst_model.specs.Ranges as model
use Rattle.pst_model.specs.Ranges.{range_between}
use Rattle.pst_model.specs.Stores.{is_channel}
use Rattle.pst_model.specs.Table.{Store, Table}
use Rattle.retrieval.specs.Picks.{opened_row, ranged_row}
use Rattle.store_directory.specs.Changes.{Put}
use Rattle.store_directory.specs.Directory.{Directory, IsDirectory, Listed, find_store}
use Rattle.store_directory.specs.Rows.{FitsRow, is_lawful_row, is_range, range_end, range_next}
use Rattle.store_directory.specs.declared.row.Row.{Row}
use Rattle.time_index.specs.TimeIndex.{TimeIndex, count_below, count_up_to}
use Rattle.request_laws.specs.Changing.{BeginsWell, IsListedAs, IsTableOf, with_channel, with_kind, with_open, with_storage, without_range}
use Rattle.request_laws.proofs.Applying.{Makes}
use Rattle.request_laws.proofs.Indexed.{IndexedAs, below_is, below_within, up_to_is, up_to_within}
use Rattle.request_laws.proofs.Storing.{puts_row}

-- A row whose kind and flags are others fits as it did.
abbrev restyled : Row → StoreKind → (storage open_on told : Bool) → Row
restyled row kind storage open_on told = record row { kind = kind; storage = storage; open_on = open_on; told = told }

same_fits : (row : Row) (kind : StoreKind) (storage open_on told : Bool) → FitsRow row → FitsRow (restyled row kind storage open_on told)
same_fits row kind storage open_on told fits = record {
  identifier = fits.identifier;
  size = fits.size;
  channel = fits.channel;
  first = fits.first;
  count = fits.count;
  behind = fits.behind;
  next = fits.next;
  end = fits.end;
}

-- another channel

channel_low : (channel : ℕ) → is_channel channel ≡ true → channel < 2 ^ 8
channel_low channel is = grind (arith, nat_tests)

channel_fits : (row : Row) (channel : ℕ) → is_channel channel ≡ true → FitsRow row → FitsRow (with_channel channel row)
channel_fits row channel is fits = record {
  identifier = fits.identifier;
  size = fits.size;
  channel = channel_low channel is;
  first = fits.first;
  count = fits.count;
  behind = fits.behind;
  next = fits.next;
  end = fits.end;
}

channel_lawful : (row : Row) (channel : ℕ) → is_channel channel ≡ true → is_lawful_row row ≡ true → is_lawful_row (with_channel channel row) ≡ true
channel_lawful row channel is lawful = whole row.size row.channel row.count row.behind (is_range row.count row.range) lawful
  where
    whole : (size old count behind : ℕ) (range : Bool)
        → (nat_le 1 size && nat_le size 100000 && nat_le 1 old && nat_le old 7 && nat_le count size && nat_le behind count && range) ≡ true
        → (nat_le 1 size && nat_le size 100000 && nat_le 1 channel && nat_le channel 7 && nat_le count size && nat_le behind count && range) ≡ true
    whole size old count behind range h =
        let ranged = and_parts (nat_le 1 size && nat_le size 100000 && nat_le 1 old && nat_le old 7 && nat_le count size && nat_le behind count) range h in
        let passed = and_parts (nat_le 1 size && nat_le size 100000 && nat_le 1 old && nat_le old 7 && nat_le count size) (nat_le behind count) ranged.0 in
        let counted = and_parts (nat_le 1 size && nat_le size 100000 && nat_le 1 old && nat_le old 7) (nat_le count size) passed.0 in
        let high = and_parts (nat_le 1 size && nat_le size 100000 && nat_le 1 old) (nat_le old 7) counted.0 in
        let low = and_parts (nat_le 1 size && nat_le size 100000) (nat_le 1 old) high.0 in
        let new = and_parts (nat_le 1 channel) (nat_le channel 7) is in
        rw (low.0, new.0, new.1, counted.1, passed.1, ranged.1) refl

-- another position of open retrieval

behind_fits : (row : Row) (behind : ℕ) → behind ≤ row.count → FitsRow row → FitsRow (record row { behind = behind })
behind_fits row behind within fits = record {
  identifier = fits.identifier;
  size = fits.size;
  channel = fits.channel;
  first = fits.first;
  count = fits.count;
  behind = omega (arith, within, fits.count);
  next = fits.next;
  end = fits.end;
}

behind_lawful : (row : Row) (behind : ℕ) → behind ≤ row.count → is_lawful_row row ≡ true → is_lawful_row (record row { behind = behind }) ≡ true
behind_lawful row behind within lawful =
    let ranged = and_parts (nat_le 1 row.size && nat_le row.size 100000 && nat_le 1 row.channel && nat_le row.channel 7 && nat_le row.count row.size && nat_le row.behind row.count) (is_range row.count row.range) lawful in
    let passed = and_parts (nat_le 1 row.size && nat_le row.size 100000 && nat_le 1 row.channel && nat_le row.channel 7 && nat_le row.count row.size) (nat_le row.behind row.count) ranged.0 in
    rw (passed.0, le-leb behind row.count within, ranged.1) refl

-- another range

range_fits : (row : Row) (range : Option (ℕ × ℕ)) → range_next range < 2 ^ 32 → range_end range < 2 ^ 32 → FitsRow row → FitsRow (record row { range = range })
range_fits row range next end fits = record {
  identifier = fits.identifier;
  size = fits.size;
  channel = fits.channel;
  first = fits.first;
  count = fits.count;
  behind = fits.behind;
  next = next;
  end = end;
}

range_lawful : (row : Row) (range : Option (ℕ × ℕ)) → is_range row.count range ≡ true → is_lawful_row row ≡ true → is_lawful_row (record row { range = range }) ≡ true
range_lawful row range is lawful =
    let parts = and_parts (nat_le 1 row.size && nat_le row.size 100000 && nat_le 1 row.channel && nat_le row.channel 7 && nat_le row.count row.size && nat_le row.behind row.count) (is_range row.count row.range) lawful in
    and_from (nat_le 1 row.size && nat_le row.size 100000 && nat_le 1 row.channel && nat_le row.channel 7 && nat_le row.count row.size && nat_le row.behind row.count) (is_range row.count range) parts.0 is

module _ (next end count : ℕ) (within : end ≤ count) where
  between_range : is_range count (range_between next end) ≡ true
  between_range =
      cond_both (nat_lt next end) (Some (next, end)) None (λ (o : Option (ℕ × ℕ)). is_range count o ≡ true)
      (λ some. and_from (nat_lt next end) (nat_le end count) some (le-leb end count within)) (λ none. refl)

  module _ (limit : ℕ) (low : next < limit) (few : count < limit) where
    next_low : range_next (range_between next end) < limit
    next_low =
        cond_both (nat_lt next end) (Some (next, end)) None (λ (o : Option (ℕ × ℕ)). range_next o < limit) (λ some. low) (λ none. omega (arith, low))

    end_low : range_end (range_between next end) < limit
    end_low =
        cond_both (nat_lt next end) (Some (next, end)) None (λ (o : Option (ℕ × ℕ)). range_end o < limit) (λ some. omega (arith, within, few)) (λ none. omega (arith, low))

module _ (before : Directory) (table : Table) (directory : IsDirectory before) (begins : All BeginsWell before.stores) (is_of : IsTableOf table before)
    (identifier : ℕ) (store : Store) (s : Listed) (there : find (is_named identifier) table.stores ≡ Some store) (found : find_store identifier before.stores ≡ Some s)
    (own : s.identifier ≡ identifier) (alike : IsListedAs store s) where
  -- the table with another store in the place of that one
  abbrev swapped : Store → Table
  swapped made = record table { stores = with_store identifier made table.stores }

  pub stores_on : (on : Bool) → Makes before table (swapped (record store { storage = on })) (Put (with_storage on s.row))
  stores_on on =
      puts_row before table directory begins is_of identifier store (record store { storage = on }) s (with_storage on s.row) there found own
      (record { identifier = refl; size = refl; first = refl; count = refl; links = refl })
      (λ lawful. lawful) (same_fits s.row s.kind on s.open_on s.told)
      (record {
        identifier = alike.identifier;
        kind = alike.kind;
        size = alike.size;
        channel = alike.channel;
        storage = refl;
        open_on = alike.open_on;
        told = alike.told;
        behind = alike.behind;
        range = alike.range;
        patterns = alike.patterns;
      })
      refl

  pub opens_on : (on : Bool) → Makes before table (swapped (record store { open_on = on })) (Put (with_open on s.row))
  opens_on on =
      puts_row before table directory begins is_of identifier store (record store { open_on = on }) s (with_open on s.row) there found own
      (record { identifier = refl; size = refl; first = refl; count = refl; links = refl })
      (λ lawful. lawful) (same_fits s.row s.kind s.storage on s.told)
      (record {
        identifier = alike.identifier;
        kind = alike.kind;
        size = alike.size;
        channel = alike.channel;
        storage = alike.storage;
        open_on = refl;
        told = alike.told;
        behind = alike.behind;
        range = alike.range;
        patterns = alike.patterns;
      })
      refl

  pub sets_kind : (kind : StoreKind) → Makes before table (swapped (record store { kind = kind; told = false })) (Put (with_kind kind s.row))
  sets_kind kind =
      puts_row before table directory begins is_of identifier store (record store { kind = kind; told = false }) s (with_kind kind s.row) there found own
      (record { identifier = refl; size = refl; first = refl; count = refl; links = refl })
      (λ lawful. lawful) (same_fits s.row kind s.storage s.open_on false)
      (record {
        identifier = alike.identifier;
        kind = refl;
        size = alike.size;
        channel = alike.channel;
        storage = alike.storage;
        open_on = alike.open_on;
        told = refl;
        behind = alike.behind;
        range = alike.range;
        patterns = alike.patterns;
      })
      refl

  pub sets_channel : (channel : ℕ) → is_channel channel ≡ true → Makes before table (swapped (record store { channel = channel })) (Put (with_channel channel s.row))
  sets_channel channel is =
      puts_row before table directory begins is_of identifier store (record store { channel = channel }) s (with_channel channel s.row) there found own
      (record { identifier = refl; size = refl; first = refl; count = refl; links = refl })
      (channel_lawful s.row channel is) (channel_fits s.row channel is)
      (record {
        identifier = alike.identifier;
        kind = alike.kind;
        size = alike.size;
        channel = refl;
        storage = alike.storage;
        open_on = alike.open_on;
        told = alike.told;
        behind = alike.behind;
        range = alike.range;
        patterns = alike.patterns;
      })
      refl

  -- a store with a range, or without one
  ranges : (made range : Option (ℕ × ℕ)) → made ≡ range → is_range s.count range ≡ true → range_next range < 2 ^ 32 → range_end range < 2 ^ 32
      → Makes before table (swapped (record store { range = made })) (Put (record s.row { range = range }))
  ranges made range same is next end =
      puts_row before table directory begins is_of identifier store (record store { range = made }) s (record s.row { range = range }) there found own
      (record { identifier = refl; size = refl; first = refl; count = refl; links = refl })
      (range_lawful s.row range is) (range_fits s.row range next end)
      (record {
        identifier = alike.identifier;
        kind = alike.kind;
        size = alike.size;
        channel = alike.channel;
        storage = alike.storage;
        open_on = alike.open_on;
        told = alike.told;
        behind = alike.behind;
        range = same;
        patterns = alike.patterns;
      })
      refl

  pub ends_range : Makes before table (swapped (record store { range = None })) (Put (without_range s.row))
  ends_range = ranges None None refl refl (omega arith) (omega arith)

  module _ (index : TimeIndex) (indexed : IndexedAs index store s) (few : s.count < 2 ^ 32) where
    pub starts_range : (t1 t2 : ℕ)
        → Makes before table (swapped (record store { range = range_between (model.count_below t1 store.packets) (model.count_up_to t2 store.packets) })) (Put (ranged_row t1 t2 index s.row))
    starts_range t1 t2 =
        let next = count_below index.entries t1 in
        let end = count_up_to index.entries t2 in
        let low : next < 2 ^ 32 = omega (arith, below_within index store s indexed t1, few) in
        let within = up_to_within index store s indexed t2 in
        ranges (range_between (model.count_below t1 store.packets) (model.count_up_to t2 store.packets)) (range_between next end)
        (λ i. range_between (below_is index store s indexed t1 i) (up_to_is index store s indexed t2 i))
        (between_range next end s.count within) (next_low next end s.count within (2 ^ 32) low few) (end_low next end s.count within (2 ^ 32) low few)

    pub opens_from : (t : ℕ) → Makes before table (swapped (record store { behind = model.count_below t store.packets })) (Put (opened_row t index s.row))
    opens_from t =
        puts_row before table directory begins is_of identifier store (record store { behind = model.count_below t store.packets }) s (opened_row t index s.row) there found own
        (record { identifier = refl; size = refl; first = refl; count = refl; links = refl })
        (behind_lawful s.row (count_below index.entries t) (below_within index store s indexed t)) (behind_fits s.row (count_below index.entries t) (below_within index store s indexed t))
        (record {
          identifier = alike.identifier;
          kind = alike.kind;
          size = alike.size;
          channel = alike.channel;
          storage = alike.storage;
          open_on = alike.open_on;
          told = alike.told;
          behind = below_is index store s indexed t;
          range = alike.range;
          patterns = alike.patterns;
        })
        refl
