-- What an index takes of records, and when it takes all of them.
use Rattle.std.proofs.Common.{◌≡◌, ℕ, zero, suc, ◌+◌, ◌-◌, ◌≤◌, ◌&&◌, ◌||◌, nat_le, Bool, true, false, List, [], ◌∷◌, ◌++◌, length, drop, map, Some, None, refl, sym, ◌∙◌, ap, subst, arith, append_assoc, append-nil, length-append}
use Rattle.std.specs.Prelude.{⊤, if◌then◌else◌}
use Rattle.std.proofs.lemmas.Bool.{and_parts, leb-true}
use Rattle.std.proofs.lemmas.List.{drop-map}
use Rattle.std.proofs.lemmas.List.Folds.{list_all-append}
use Rattle.std.proofs.lemmas.List.Sums.{sum_by-append, sum_by-cons}
use Rattle.std.proofs.lemmas.Option.{none-some, same_Some}
use Rattle.space_packet.specs.Charge.{charge_of}
use Rattle.record_view.specs.Records.{Meaning}
use Rattle.store_directory.specs.Options.{◌>>=◌, given}
use Rattle.store_directory.proofs.Steps.{some_then}
use Rattle.time_index.specs.TimeIndex.{TimeIndex, pages_of}
use Rattle.time_index.specs.declared.entry.Entry.{Entry}
use Rattle.store_load.specs.Each.{each}
use Rattle.store_load.specs.Extents.{Extent, joined, pages_in, read_extent}
use Rattle.store_load.specs.Held.{AreTaken}
use Rattle.store_load.specs.Kept.{are_filled, are_short, rise_to}
use Rattle.store_load.specs.Loaded.{placed, placed_all}
use Rattle.store_load.specs.Loading.{Progress, entry_at, is_last, load_extents, may_follow, take_one, take_records, take_short, with_live}
use Rattle.store_load.specs.declared.loading.Limits.{Limits}
use Rattle.store_load.proofs.Eachs.{both, each_more, given_then, two}

-- what leaves the front of two lists
pub drop_both : {X : Type 0} (n : ℕ) (xs ys : List X) → drop n (xs ++ ys) ≡ drop n xs ++ drop (n - length xs) ys
drop_both zero xs ys =
    let none : 0 ≡ 0 - length xs = omega arith in ap (λ (k : ℕ). xs ++ drop k ys) none
drop_both (suc n) [] ys =
    let all : suc n ≡ suc n - 0 = omega arith in ap (λ (k : ℕ). drop k ys) all
drop_both (suc n) (x ∷ xs) ys =
    let less : n - length xs ≡ suc n - length (x ∷ xs) = omega arith in
    drop_both n xs ys ∙ ap (λ (k : ℕ). drop n xs ++ drop k ys) less

-- the stamp of the last record, or the one before the first
abbrev pub last_stamp : ℕ → List Meaning → ℕ
last_stamp from [] = from
last_stamp from (meaning ∷ records) = last_stamp meaning.stamp records

pub last_both : (from : ℕ) (xs ys : List Meaning) → last_stamp from (xs ++ ys) ≡ last_stamp (last_stamp from xs) ys
last_both from [] ys = refl
last_both from (x ∷ xs) ys = last_both x.stamp xs ys

pub rise_both : (now from : ℕ) (xs ys : List Meaning) → rise_to now from xs ≡ true → rise_to now (last_stamp from xs) ys ≡ true → rise_to now from (xs ++ ys) ≡ true
rise_both now from [] ys h k = k
rise_both now from (x ∷ xs) ys h k =
    let parts = and_parts (nat_le from x.stamp && nat_le x.stamp now) (rise_to now x.stamp xs) h in
    both (nat_le from x.stamp && nat_le x.stamp now) (rise_to now x.stamp (xs ++ ys)) parts.0 (rise_both now x.stamp xs ys parts.1 k)

pub rise_front : (now from : ℕ) (xs ys : List Meaning) → rise_to now from (xs ++ ys) ≡ true → rise_to now from xs ≡ true
rise_front now from [] ys h = refl
rise_front now from (x ∷ xs) ys h =
    let parts = and_parts (nat_le from x.stamp && nat_le x.stamp now) (rise_to now x.stamp (xs ++ ys)) h in
    both (nat_le from x.stamp && nat_le x.stamp now) (rise_to now x.stamp xs) parts.0 (rise_front now x.stamp xs ys parts.1)

pub rise_back : (now from : ℕ) (xs ys : List Meaning) → rise_to now from (xs ++ ys) ≡ true → rise_to now (last_stamp from xs) ys ≡ true
rise_back now from [] ys h = h
rise_back now from (x ∷ xs) ys h = rise_back now x.stamp xs ys (two (nat_le from x.stamp && nat_le x.stamp now) (rise_to now x.stamp (xs ++ ys)) h)

pub pages_both : (xs ys : List Meaning) → pages_in (xs ++ ys) ≡ pages_in xs + pages_in ys
pages_both [] ys = omega arith
pages_both (x ∷ xs) ys = let rest = pages_both xs ys in omega (arith, rest)

-- entries and records of the same lengths cost the same
abbrev lengths_of : List Entry → List ℕ
lengths_of entries = map (λ (e : Entry). e.length) entries

abbrev pages_by : List ℕ → ℕ
pages_by [] = 0
pages_by (n ∷ lengths) = charge_of n + pages_by lengths

pages_listed : (entries : List Entry) → pages_of entries ≡ pages_by (lengths_of entries)
pages_listed [] = refl
pages_listed (e ∷ entries) =
    sum_by-cons (λ (x : Entry). charge_of x.length) e entries ∙ ap (λ (n : ℕ). charge_of e.length + n) (pages_listed entries)

pages_of_records : (records : List Meaning) → pages_in records ≡ pages_by (map (λ (m : Meaning). length m.packet) records)
pages_of_records [] = refl
pages_of_records (m ∷ records) = ap (λ (n : ℕ). charge_of (length m.packet) + n) (pages_of_records records)

pub pages_match : (n : ℕ) (entries : List Entry) (records : List Meaning)
    → map (λ (e : Entry). e.length) entries ≡ map (λ (m : Meaning). length m.packet) records
    → pages_of (drop n entries) ≡ pages_in (drop n records)
pages_match n entries records same =
    pages_listed (drop n entries)
    ∙ ap pages_by (sym (drop-map (λ (e : Entry). e.length) n entries) ∙ ap (drop n) same ∙ drop-map (λ (m : Meaning). length m.packet) n records)
    ∙ sym (pages_of_records (drop n records))

pub pages_more : (xs ys : List Entry) → pages_of (xs ++ ys) ≡ pages_of xs + pages_of ys
pages_more xs ys = sum_by-append (λ (e : Entry). charge_of e.length) xs ys

-- what an index took of records, as these entries
pub record Takes (limits : Limits) (old : Progress) (records : List Meaning) (entries : List Entry) (new : Progress) : Type 0 where
  pub short : are_short limits.largest records ≡ true
  pub rise : rise_to limits.now old.last (drop old.dead records) ≡ true
  pub fits : pages_of old.index.entries ≤ limits.size → pages_of new.index.entries ≤ limits.size
  pub index_is : new.index ≡ record old.index { entries = old.index.entries ++ drop old.dead entries }
  pub dead : new.dead ≡ old.dead - length records
  pub last : new.last ≡ last_stamp old.last (drop old.dead records)
  pub many : length entries ≡ length records

none_dropped : (n : ℕ) (records : List Meaning) → records ≡ [] → drop n records ≡ []
none_dropped zero records is = is
none_dropped (suc n) records is = ap (drop (suc n)) is

no_entry : (n : ℕ) (entries : List Entry) → entries ≡ [] → drop n entries ≡ []
no_entry zero entries is = is
no_entry (suc n) entries is = ap (drop (suc n)) is

takes_none : (limits : Limits) (old : Progress) → Takes limits old [] [] old
takes_none limits old = record {
  short = refl;
  rise = ap (rise_to limits.now old.last) (none_dropped old.dead [] refl);
  fits = λ h. h;
  index_is = ap (λ (l : List Entry). record old.index { entries = l }) (sym (append-nil old.index.entries) ∙ ap (λ (l : List Entry). old.index.entries ++ l) (sym (no_entry old.dead [] refl)));
  dead = omega arith;
  last = ap (last_stamp old.last) (sym (none_dropped old.dead [] refl));
  many = refl;
}

-- one after another
pub takes_then : (limits : Limits) (old middle new : Progress) (xs ys : List Meaning) (es fs : List Entry)
    → Takes limits old xs es middle → Takes limits middle ys fs new → Takes limits old (xs ++ ys) (es ++ fs) new
takes_then limits old middle new xs ys es fs a b =
    let live : drop old.dead (xs ++ ys) ≡ drop old.dead xs ++ drop middle.dead ys =
    drop_both old.dead xs ys ∙ ap (λ (k : ℕ). drop old.dead xs ++ drop k ys) (sym a.dead) in
    let listed : drop old.dead (es ++ fs) ≡ drop old.dead es ++ drop middle.dead fs =
    drop_both old.dead es fs ∙ ap (λ (k : ℕ). drop old.dead es ++ drop k fs) (ap (λ (n : ℕ). old.dead - n) a.many ∙ sym a.dead) in
    let index_mid : middle.index.entries ≡ old.index.entries ++ drop old.dead es = ap (λ (x : TimeIndex). x.entries) a.index_is in
    record {
      short =
          list_all-append (λ (m : Meaning). nat_le (length m.packet) limits.largest) xs ys
          ∙ both (are_short limits.largest xs) (are_short limits.largest ys) a.short b.short;
      rise =
          ap (rise_to limits.now old.last) live
          ∙ rise_both limits.now old.last (drop old.dead xs) (drop middle.dead ys) a.rise
          (ap (λ (n : ℕ). rise_to limits.now n (drop middle.dead ys)) (sym a.last) ∙ b.rise);
      fits = λ h. b.fits (a.fits h);
      index_is =
          b.index_is
          ∙ ap (λ (x : TimeIndex). record x { entries = middle.index.entries ++ drop middle.dead fs }) a.index_is
          ∙ ap (λ (l : List Entry). record old.index { entries = l })
          (ap (λ (l : List Entry). l ++ drop middle.dead fs) index_mid
          ∙ append_assoc old.index.entries (drop old.dead es) (drop middle.dead fs)
          ∙ ap (λ (l : List Entry). old.index.entries ++ l) (sym listed));
      dead = omega (arith, a.dead, b.dead, length-append xs ys);
      last =
          b.last ∙ ap (λ (n : ℕ). last_stamp n (drop middle.dead ys)) a.last
          ∙ sym (last_both old.last (drop old.dead xs) (drop middle.dead ys)) ∙ ap (last_stamp old.last) (sym live);
      many = omega (arith, a.many, b.many, length-append es fs, length-append xs ys);
    }

-- one record
pub takes_one : (limits : Limits) (block page : ℕ) (meaning : Meaning) (old new : Progress) → take_one limits block page meaning old ≡ Some new
    → Takes limits old (meaning ∷ []) (entry_at block page meaning ∷ []) new
takes_one limits block page meaning old new is = by_length (nat_le (length meaning.packet) limits.largest) refl is
  where
    by_dead : (dead : ℕ) → old.dead ≡ dead → nat_le (length meaning.packet) limits.largest ≡ true
        → take_short limits dead block page meaning old ≡ Some new → Takes limits old (meaning ∷ []) (entry_at block page meaning ∷ []) new
    by_dead zero none fits is = by_limits (may_follow limits old meaning) refl is
      where
        by_limits : (b : Bool) → may_follow limits old meaning ≡ b
            → (if b then Some (with_live old (entry_at block page meaning)) else None) ≡ Some new
            → Takes limits old (meaning ∷ []) (entry_at block page meaning ∷ []) new
        by_limits false h is = absurd (none-some new is)
        by_limits true h is =
            let made : with_live old (entry_at block page meaning) ≡ new = same_Some (with_live old (entry_at block page meaning)) new is in
            let parts = and_parts (nat_le old.last meaning.stamp && nat_le meaning.stamp limits.now)
            (nat_le (pages_of old.index.entries + charge_of (length meaning.packet)) limits.size) h in
            let room : pages_of old.index.entries + charge_of (length meaning.packet) ≤ limits.size = leb-true (pages_of old.index.entries + charge_of (length meaning.packet)) limits.size parts.1 in
            let more : pages_of (old.index.entries ++ entry_at block page meaning ∷ []) ≡ pages_of old.index.entries + pages_of (entry_at block page meaning ∷ []) =
            pages_more old.index.entries (entry_at block page meaning ∷ []) in
            let alone : pages_of (entry_at block page meaning ∷ []) ≡ charge_of (length meaning.packet) + 0 =
            sum_by-cons (λ (x : Entry). charge_of x.length) (entry_at block page meaning) [] in
            subst (Takes limits old (meaning ∷ []) (entry_at block page meaning ∷ [])) made
            (record {
              short = both (nat_le (length meaning.packet) limits.largest) true fits refl;
              rise = ap (λ (n : ℕ). rise_to limits.now old.last (drop n (meaning ∷ []))) none ∙ both (nat_le old.last meaning.stamp && nat_le meaning.stamp limits.now) true parts.0 refl;
              fits = λ h. omega (arith, more, alone, room);
              index_is = ap (λ (n : ℕ). record old.index { entries = old.index.entries ++ drop n (entry_at block page meaning ∷ []) }) (sym none);
              dead = omega (arith, none);
              last = ap (λ (n : ℕ). last_stamp old.last (drop n (meaning ∷ []))) (sym none);
              many = refl;
            })
    by_dead (suc dead) some fits is =
        let passed : Progress = record { index = old.index; dead = dead; last = old.last } in
        let made : passed ≡ new = same_Some passed new is in
        let no_record : drop old.dead (meaning ∷ []) ≡ [] = ap (λ (n : ℕ). drop n (meaning ∷ [])) some ∙ none_dropped dead [] refl in
        let no_listed : drop old.dead (entry_at block page meaning ∷ []) ≡ [] = ap (λ (n : ℕ). drop n (entry_at block page meaning ∷ [])) some ∙ no_entry dead [] refl in
        subst (Takes limits old (meaning ∷ []) (entry_at block page meaning ∷ [])) made
        (record {
          short = both (nat_le (length meaning.packet) limits.largest) true fits refl;
          rise = ap (rise_to limits.now old.last) no_record;
          fits = λ h. h;
          index_is = ap (λ (l : List Entry). record old.index { entries = l }) (sym (append-nil old.index.entries) ∙ ap (λ (l : List Entry). old.index.entries ++ l) (sym no_listed));
          dead = omega (arith, some);
          last = ap (last_stamp old.last) (sym no_record);
          many = refl;
        })

    by_length : (b : Bool) → nat_le (length meaning.packet) limits.largest ≡ b
        → (if b then take_short limits old.dead block page meaning old else None) ≡ Some new
        → Takes limits old (meaning ∷ []) (entry_at block page meaning ∷ []) new
    by_length false h is = absurd (none-some new is)
    by_length true h is = by_dead old.dead refl h is

-- the records of a block
pub takes_records : (limits : Limits) (block page : ℕ) (records : List Meaning) (old new : Progress) → take_records limits block page records old ≡ Some new
    → Takes limits old records (placed block page records) new
unfolding take_records
takes_records limits block page [] old new is = subst (Takes limits old [] []) (same_Some old new is) (takes_none limits old)
takes_records limits block page (meaning ∷ records) old new is =
    let (middle, one_is, rest) = some_then (take_one limits block page meaning old) (take_records limits block (page + charge_of (length meaning.packet)) records) new is in
    takes_then limits old middle new (meaning ∷ []) records (entry_at block page meaning ∷ []) (placed block (page + charge_of (length meaning.packet)) records)
    (takes_one limits block page meaning old middle one_is)
    (takes_records limits block (page + charge_of (length meaning.packet)) records middle new rest)

-- the records of extents
pub takes_all : (limits : Limits) (least : ℕ) (extents : List Extent) (reads : List (List Meaning)) (old new : Progress)
    → AreTaken limits least extents reads old new
    → (are_filled least reads ≡ true) × Takes limits old (joined reads) (placed_all extents reads) new
takes_all limits least [] [] old new are = (refl, subst (Takes limits old [] []) are (takes_none limits old))
takes_all limits least [] (records ∷ reads) old new are = absurd are
takes_all limits least (extent ∷ extents) [] old new are = absurd are
takes_all limits least (extent ∷ extents) (records ∷ reads) old new (middle, took, filled, rest) =
    let behind = takes_all limits least extents reads middle new rest in (
      filled_cons limits least records extents reads middle new rest filled behind.0,
      takes_then limits old middle new records (joined reads) (placed extent.block 0 records) (placed_all extents reads)
          (takes_records limits extent.block 0 records old middle took) behind.1,
    )
  where
    filled_cons : (limits : Limits) (least : ℕ) (records : List Meaning) (extents : List Extent) (reads : List (List Meaning)) (old new : Progress)
        → AreTaken limits least extents reads old new → (is_last extents || nat_le least (pages_in records)) ≡ true
        → are_filled least reads ≡ true → are_filled least (records ∷ reads) ≡ true
    filled_cons limits least records [] [] old new are h filled = refl
    filled_cons limits least records [] (next ∷ reads) old new are h filled = absurd are
    filled_cons limits least records (extent ∷ extents) [] old new are h filled = absurd are
    filled_cons limits least records (extent ∷ extents) (next ∷ reads) old new are h filled = both (nat_le least (pages_in records)) (are_filled least (next ∷ reads)) h filled

-- what was loaded of an image was taken of what its blocks spell
pub loads_taken : (limits : Limits) (least : ℕ) (image : ℕ → List ℕ) (extents : List Extent) (old new : Progress)
    → load_extents limits least image extents old ≡ Some new
    → (reads : List (List Meaning)) × (each (read_extent image) extents ≡ Some reads) × AreTaken limits least extents reads old new
unfolding load_extents
loads_taken limits least image [] old new is = ([], refl, same_Some old new is)
loads_taken limits least image (extent ∷ extents) old new is =
    let (records, read, more) = some_then (read_extent image extent) (λ (records : List Meaning). take_records limits extent.block 0 records old >>= λ (next : Progress).
    given (is_last extents || nat_le least (pages_in records)) >>= λ (_ : ⊤). load_extents limits least image extents next) new is in
    let (middle, took, rest) = some_then (take_records limits extent.block 0 records old) (λ (next : Progress).
    given (is_last extents || nat_le least (pages_in records)) >>= λ (_ : ⊤). load_extents limits least image extents next) new more in
    let parts = given_then (is_last extents || nat_le least (pages_in records)) (λ (_ : ⊤). load_extents limits least image extents middle) new rest in
    let (reads, are, taken) = loads_taken limits least image extents middle new parts.1 in
    (records ∷ reads, each_more (read_extent image) extent extents records reads read are, (middle, took, parts.0, taken))

-- the entries of records have their lengths
pub placed_lengths : (block page : ℕ) (records : List Meaning) → map (λ (e : Entry). e.length) (placed block page records) ≡ map (λ (m : Meaning). length m.packet) records
placed_lengths block page [] = refl
placed_lengths block page (m ∷ records) = ap (λ (l : List ℕ). length m.packet ∷ l) (placed_lengths block (page + charge_of (length m.packet)) records)
