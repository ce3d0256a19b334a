-- An index takes all records that it has room for.
use Rattle.std.proofs.Common.{◌≡◌, ℕ, zero, suc, ◌+◌, ◌-◌, ◌≤◌, ◌&&◌, ◌||◌, nat_le, true, List, [], ◌∷◌, ◌++◌, length, drop, map, Some, refl, sym, ◌∙◌, ap, subst, arith}
use Rattle.std.proofs.lemmas.Bool.{le-leb}
use Rattle.std.proofs.lemmas.List.Folds.{list_all-append}
use Rattle.std.proofs.lemmas.Option.{same_Some}
use Rattle.space_packet.specs.Charge.{charge_of}
use Rattle.record_view.specs.Records.{Meaning}
use Rattle.time_index.specs.TimeIndex.{TimeIndex, pages_of}
use Rattle.time_index.specs.declared.entry.Entry.{Entry}
use Rattle.store_load.specs.Each.{each}
use Rattle.store_load.specs.Extents.{Extent, joined, pages_in, read_extent}
use Rattle.store_load.specs.Kept.{are_filled, are_short, rise_to}
use Rattle.store_load.specs.Loaded.{placed}
use Rattle.store_load.specs.Loading.{Progress, entry_at, is_last, load_extents, may_follow, take_one, take_records, take_short, with_live}
use Rattle.store_load.specs.declared.loading.Limits.{Limits}
use Rattle.store_load.proofs.Eachs.{both, each_cons, one, two}
use Rattle.store_load.proofs.Takings.{Takes, drop_both, pages_both, pages_match, pages_more, placed_lengths, rise_back, rise_front, takes_one, takes_records}

-- an index has room for records
pub record Room (limits : Limits) (old : Progress) (records : List Meaning) : Type 0 where
  pub short : are_short limits.largest records ≡ true
  pub rise : rise_to limits.now old.last (drop old.dead records) ≡ true
  pub fits : pages_of old.index.entries + pages_in (drop old.dead records) ≤ limits.size

-- for those of the front, and for those behind once these were taken
room_front : (limits : Limits) (old : Progress) (xs ys : List Meaning) → Room limits old (xs ++ ys) → Room limits old xs
room_front limits old xs ys room =
    let live = drop_both old.dead xs ys in
    let all : pages_in (drop old.dead (xs ++ ys)) ≡ pages_in (drop old.dead xs) + pages_in (drop (old.dead - length xs) ys) =
    ap pages_in live ∙ pages_both (drop old.dead xs) (drop (old.dead - length xs) ys) in
    record {
      short = one (are_short limits.largest xs) (are_short limits.largest ys)
          (sym (list_all-append (λ (m : Meaning). nat_le (length m.packet) limits.largest) xs ys) ∙ room.short);
      rise = rise_front limits.now old.last (drop old.dead xs) (drop (old.dead - length xs) ys) (ap (rise_to limits.now old.last) (sym live) ∙ room.rise);
      fits = omega (arith, all, room.fits);
    }

room_back : (limits : Limits) (old middle : Progress) (xs ys : List Meaning) (es : List Entry) → Room limits old (xs ++ ys)
    → map (λ (e : Entry). e.length) es ≡ map (λ (m : Meaning). length m.packet) xs
    → Takes limits old xs es middle → Room limits middle ys
room_back limits old middle xs ys es room same a =
    let live : drop old.dead (xs ++ ys) ≡ drop old.dead xs ++ drop middle.dead ys =
    drop_both old.dead xs ys ∙ ap (λ (k : ℕ). drop old.dead xs ++ drop k ys) (sym a.dead) in
    let all : pages_in (drop old.dead (xs ++ ys)) ≡ pages_in (drop old.dead xs) + pages_in (drop middle.dead ys) =
    ap pages_in live ∙ pages_both (drop old.dead xs) (drop middle.dead ys) in
    let now_pages : pages_of middle.index.entries ≡ pages_of old.index.entries + pages_in (drop old.dead xs) =
    ap (λ (x : TimeIndex). pages_of x.entries) a.index_is ∙ pages_more old.index.entries (drop old.dead es)
    ∙ ap (λ (n : ℕ). pages_of old.index.entries + n) (pages_match old.dead es xs same) in
    record {
      short = two (are_short limits.largest xs) (are_short limits.largest ys)
          (sym (list_all-append (λ (m : Meaning). nat_le (length m.packet) limits.largest) xs ys) ∙ room.short);
      rise =
          ap (λ (n : ℕ). rise_to limits.now n (drop middle.dead ys)) a.last
          ∙ rise_back limits.now old.last (drop old.dead xs) (drop middle.dead ys) (ap (rise_to limits.now old.last) (sym live) ∙ room.rise);
      fits = omega (arith, all, now_pages, room.fits);
    }

-- one record is taken where there is room
room_one : (limits : Limits) (block page : ℕ) (meaning : Meaning) (rest : List Meaning) (old : Progress) → Room limits old (meaning ∷ rest)
    → (new : Progress) × (take_one limits block page meaning old ≡ Some new)
room_one limits block page meaning rest old room = by_dead old.dead refl
  where
    short : nat_le (length meaning.packet) limits.largest ≡ true
    short = one (nat_le (length meaning.packet) limits.largest) (are_short limits.largest rest) room.short

    by_dead : (dead : ℕ) → old.dead ≡ dead → (new : Progress) × (take_one limits block page meaning old ≡ Some new)
    by_dead zero none =
        let rise : rise_to limits.now old.last (meaning ∷ rest) ≡ true = ap (λ (n : ℕ). rise_to limits.now old.last (drop n (meaning ∷ rest))) (sym none) ∙ room.rise in
        let cost : pages_in (drop old.dead (meaning ∷ rest)) ≡ charge_of (length meaning.packet) + pages_in rest = ap (λ (n : ℕ). pages_in (drop n (meaning ∷ rest))) none in
        let allowed : may_follow limits old meaning ≡ true =
        both (nat_le old.last meaning.stamp && nat_le meaning.stamp limits.now) (nat_le (pages_of old.index.entries + charge_of (length meaning.packet)) limits.size)
        (one (nat_le old.last meaning.stamp && nat_le meaning.stamp limits.now) (rise_to limits.now meaning.stamp rest) rise)
        (le-leb (pages_of old.index.entries + charge_of (length meaning.packet)) limits.size (omega (arith, cost, room.fits))) in (
          with_live old (entry_at block page meaning),
          rw short (ap (λ (n : ℕ). take_short limits n block page meaning old) none ∙ rw allowed refl),
        )
    by_dead (suc dead) some = (
      record { index = old.index; dead = dead; last = old.last },
      rw short (ap (λ (n : ℕ). take_short limits n block page meaning old) some),
    )

-- and so are all of a block
room_records : (limits : Limits) (block page : ℕ) (records : List Meaning) (old : Progress) → Room limits old records
    → (new : Progress) × (take_records limits block page records old ≡ Some new)
unfolding take_records
room_records limits block page [] old room = (old, refl)
room_records limits block page (meaning ∷ records) old room =
    let (middle, took) = room_one limits block page meaning records old room in
    let behind = room_back limits old middle (meaning ∷ []) records (entry_at block page meaning ∷ []) room refl (takes_one limits block page meaning old middle took) in
    let (new, rest) = room_records limits block (page + charge_of (length meaning.packet)) records middle behind in
    (new, rw took rest)

filled_parts : (least : ℕ) (image : ℕ → List ℕ) (records : List Meaning) (extents : List Extent) (reads : List (List Meaning)) → each (read_extent image) extents ≡ Some reads
    → are_filled least (records ∷ reads) ≡ true → ((is_last extents || nat_le least (pages_in records)) ≡ true) × (are_filled least reads ≡ true)
filled_parts least image records [] reads are h =
    (refl, ap (are_filled least) (sym (same_Some [] reads are)))
filled_parts least image records (extent ∷ extents) [] are h = absurd (nothing (each_cons (read_extent image) extent extents [] are))
  where
    nothing : (y : List Meaning) × (zs : List (List Meaning)) × (read_extent image extent ≡ Some y) × (each (read_extent image) extents ≡ Some zs) × (y ∷ zs ≡ []) → ⊥
    nothing (y, zs, a, b, e) = absurd (omega (arith, ap length e))
filled_parts least image records (extent ∷ extents) (next ∷ reads) are h =
    (one (nat_le least (pages_in records)) (are_filled least (next ∷ reads)) h, two (nat_le least (pages_in records)) (are_filled least (next ∷ reads)) h)

pub room_all : (limits : Limits) (least : ℕ) (image : ℕ → List ℕ) (extents : List Extent) (reads : List (List Meaning)) (old : Progress)
    → each (read_extent image) extents ≡ Some reads → are_filled least reads ≡ true → Room limits old (joined reads)
    → (new : Progress) × (load_extents limits least image extents old ≡ Some new)
unfolding load_extents
room_all limits least image [] reads old are filled room = (old, refl)
room_all limits least image (extent ∷ extents) reads old are filled room =
    let (records, behind, read, rest, whole) = each_cons (read_extent image) extent extents reads are in
    let room_here = subst (λ (l : List (List Meaning)). Room limits old (joined l)) (sym whole) room in
    let (middle, took) = room_records limits extent.block 0 records old (room_front limits old records (joined behind) room_here) in
    let left = room_back limits old middle records (joined behind) (placed extent.block 0 records) room_here (placed_lengths extent.block 0 records)
    (takes_records limits extent.block 0 records old middle took) in
    let parts = filled_parts least image records extents behind rest (ap (are_filled least) whole ∙ filled) in
    let (new, more) = room_all limits least image extents behind middle rest parts.1 left in
    (new, rw read (rw took (rw (parts.0) more)))
