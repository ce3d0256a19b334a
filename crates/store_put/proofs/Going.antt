-- What is in place of a store behind a put.
use Rattle.std.proofs.Common.{◌≡◌, ℕ, zero, suc, ◌+◌, ◌-◌, ◌*◌, ◌%◌, ◌<◌, ◌≤◌, ◌&&◌, nat_lt, not, true, List, [], ◌∷◌, ◌++◌, All, length, drop, refl, sym, ◌∙◌, ap, subst, arith, length-append, length-drop, eqb-true}
use Rattle.std.proofs.lemmas.Bool.Decides.{nat_tests}
use Rattle.std.proofs.lemmas.List.{drop-drop}
use Rattle.std.proofs.lemmas.List.Elements.{All-append, All-cons, All-drop, All-head, All-nil}
use Rattle.block_pool.specs.Sizes.{blocks_for_size}
use Rattle.space_packet.specs.Charge.{charge_of}
use Rattle.record_view.specs.declared.link.Link.{Link}
use Rattle.store_directory.specs.Directory.{FitsLink, trim_front, trimmed}
use Rattle.store_directory.specs.Rows.{is_by}
use Rattle.store_directory.specs.declared.row.Row.{Row}
use Rattle.store_load.specs.Extents.{end_of, last_of}
use Rattle.store_load.specs.InRange.{AreFilled, AreInBlocks, AreInOrder, IsInRange, IsPlaced}
use Rattle.store_load.specs.Kept.{begins_well}
use Rattle.store_load.specs.Moving.{GoesOn}
use Rattle.store_load.proofs.Eachs.{one}
use Rattle.time_index.specs.TimeIndex.{TimeIndex, pages_of}
use Rattle.time_index.specs.declared.entry.Entry.{Entry}
use Rattle.image_table.specs.Table.{table_rule}
use Rattle.put_laws.specs.Indexes.{index_behind_put}
use Rattle.store_put.proofs.Laid.{First, Laid, pages_more, pages_rest}
use Rattle.store_put.proofs.Places.{begins_first, few_first, filled_first, ordered_first, to_first}
use Rattle.store_put.proofs.Spots.{at_spot, spot_on}
use Rattle.store_put.proofs.Stepped.{Stepped, longer, stepped}
use Rattle.store_put.specs.Ranges.{AreFew, IsFullBy, IsInPlace}

pub trimmed_some : (first count : ℕ) (link : Link) (links : List Link) → 1 ≤ count → trimmed first count (link ∷ links) ≡ trim_front first link links
trimmed_some first zero link links some = absurd (omega (arith, some))
trimmed_some first (suc count) link links some = refl

-- the index of a row
pub record Rowed (now : ℕ) (row : Row) (index : TimeIndex) : Type 0 where
  pub first : index.first ≡ row.first
  pub count : length index.entries ≡ row.count
  pub size : index.size ≡ row.size
  pub placed : All (IsPlaced table_rule now) index.entries

rowed : (now : ℕ) (row : Row) (links : List Link) (index : TimeIndex) (used : ℕ) → IsInRange table_rule now row links index used → Rowed now row index
rowed now row links index used range = record { first = range.first; count = range.count; size = range.size; placed = range.placed }

pub later_placed : (now later : ℕ) (es : List Entry) → now ≤ later → All (IsPlaced table_rule now) es → All (IsPlaced table_rule later) es
later_placed now later es le all = λ k default within.
    let here = all k default within in
    record { stamp = omega (arith, here.stamp, le); shortest = here.shortest; longest = here.longest; within = here.within }

-- a put of a store in its last block
module _ (now later : ℕ) (row next : Row) (index : TimeIndex) (used gone : ℕ) (entry : Entry) (is : Rowed now row index) (few : row.count ≤ 100000)
    (le : now ≤ later) (goes : GoesOn gone 1 row next) (size : next.size ≡ row.size) (placed : IsPlaced table_rule later entry)
    (room : pages_of (drop gone index.entries) + charge_of entry.length ≤ row.size) (fits : used + charge_of entry.length ≤ 256)
    (g d p : ℕ) (link : Link) (links : List Link) (low : g < 4294967296) (dead : d ≤ 256) (there : row.first ≡ at_spot g d)
    (is_first : First g d (d + length index.entries) used index.entries p link links)
    (are : AreInBlocks (at_spot g d) link links index.entries) (last : entry.block ≡ (last_of link links).block) where
  abbrev es : List Entry
  es = index.entries

  abbrev new_es : List Entry
  new_es = drop gone es ++ entry ∷ []

  abbrev new_used : ℕ
  new_used = used + charge_of entry.length

  step : Stepped g (d + gone) (d + length es + 1) new_used new_es link links
  step =
      stepped g d (d + length es) used gone es entry low refl (omega (arith, is.count, few, dead)) (omega (arith, is.count, goes.few))
      p link links is_first are last

  next_first : next.first ≡ at_spot g (d + gone)
  next_first = goes.first ∙ ap (λ (n : ℕ). (n + gone) % 4294967296) there ∙ spot_on g d gone

  new_long : d + length es + 1 ≡ d + gone + length new_es
  new_long =
      let sum = length-append (drop gone es) (entry ∷ []) in
      let rest = length-drop gone es in
      omega (arith, sum, rest, is.count, goes.few)

  bound : d + length es + 1 ≤ 300000
  bound = omega (arith, is.count, few, dead)

  next_count : next.count ≡ length new_es
  next_count =
      let sum = length-append (drop gone es) (entry ∷ []) in
      let rest = length-drop gone es in
      omega (arith, sum, rest, is.count, goes.few, goes.count)

  some : 1 ≤ next.count
  some = omega (arith, goes.count)

  next_end : end_of next ≡ at_spot g (d + length es + 1)
  next_end = ends next.first next.count next_first next_count
    where
      ends : (f n : ℕ) → f ≡ at_spot g (d + gone) → n ≡ length new_es → (f + n) % 4294967296 ≡ at_spot g (d + length es + 1)
      ends f n at many = omega (arith, at, many, new_long)

  cut : trimmed next.first next.count (link ∷ links) ≡ step.front ∷ step.behind
  cut =
      trimmed_some next.first next.count link links some
      ∙ ap (λ (n : ℕ). trim_front n link links) next_first
      ∙ step.trimmed_is

  pub put_in_place : IsInPlace later next (trimmed next.first next.count (link ∷ links)) (index_behind_put gone entry index) new_used
  put_in_place =
      let pages = pages_more (drop gone es) entry in
      subst (λ (l : List Link). IsInPlace later next l (index_behind_put gone entry index) new_used) (sym cut)
      (record {
        in_range = record {
          first = ap (λ (n : ℕ). (n + gone) % 4294967296) is.first ∙ sym goes.first;
          count = sym next_count;
          size = is.size ∙ sym size;
          pages = omega (arith, pages, room, size);
          placed =
              All-append (IsPlaced table_rule later) (drop gone es) (entry ∷ [])
              (All-drop (IsPlaced table_rule later) gone es (later_placed now later es le is.placed))
              (All-cons (IsPlaced table_rule later) entry [] placed (All-nil (IsPlaced table_rule later)));
          blocks = subst (λ (n : ℕ). AreInBlocks n step.front step.behind new_es) (sym next_first) step.in_blocks;
          order =
              subst (λ (n : ℕ). AreInOrder n (step.front ∷ step.behind)) (sym next_end)
              (ordered_first g (d + gone) (d + length es + 1) new_used new_es low new_long bound step.place step.front step.behind step.is_first);
          filled =
              subst (λ (n : ℕ). AreFilled 240 n new_used (step.front ∷ step.behind) new_es) (sym next_first)
              (filled_first g (d + gone) (d + length es + 1) new_used new_es low new_long bound step.place step.front step.behind step.is_first);
          used_within = fits;
          begins =
              begins_first g (d + gone) (d + length es + 1) new_used new_es low new_long bound next step.place step.front step.behind next_first some
              step.is_first;
        };
        few =
            subst (λ (n : ℕ). AreFew new_used n step.front step.behind) (sym next_end)
            (few_first g (d + gone) (d + length es + 1) new_used new_es low new_long bound step.place step.front step.behind step.is_first);
      })

pub some_records : (row : Row) (link : Link) (links : List Link) → begins_well row (link ∷ links) ≡ true → 1 ≤ row.count
some_records row link [] h = test row.count (one (nat_lt 0 row.count) (is_by link.first row.first) h)
  where
    test : (n : ℕ) → nat_lt 0 n ≡ true → 1 ≤ n
    test n h = grind (arith, nat_tests)
some_records row link (next ∷ links) h =
    test row.count
    (one (nat_lt 0 row.count) (is_by link.first row.first)
    (one (nat_lt 0 row.count && is_by link.first row.first) (not (is_by next.first row.first)) h))
  where
    test : (n : ℕ) → nat_lt 0 n ≡ true → 1 ≤ n
    test n h = grind (arith, nat_tests)

last_more : (link new : Link) (links : List Link) → last_of link (links ++ new ∷ []) ≡ new
last_more link new [] = refl
last_more link new (next ∷ links) = last_more next new links

module _ (now later : ℕ) (row next : Row) (index : TimeIndex) (used gone : ℕ) (entry : Entry) (low : row.first < 4294967296) (few : row.count ≤ 100000)
    (le : now ≤ later) (goes : GoesOn gone 1 row next) (size : next.size ≡ row.size) (placed : IsPlaced table_rule later entry)
    (room : pages_of (drop gone index.entries) + charge_of entry.length ≤ row.size) where
  -- into the last block
  pub taken_in_place : (link : Link) (links : List Link) → IsInPlace now row (link ∷ links) index used → All FitsLink (link ∷ links)
      → used + charge_of entry.length ≤ 256 → entry.block ≡ (last_of link links).block
      → IsInPlace later next (trimmed next.first next.count (link ∷ links)) (index_behind_put gone entry index) (used + charge_of entry.length)
  taken_in_place link links place fit fits last =
      let (d, dead, there, is_first) = to_first now row link links index used place fit low few in
      put_in_place now later row next index used gone entry (rowed now row (link ∷ links) index used place.in_range) few le goes size placed room fits
      link.first d 0 link links (All-head FitsLink link links fit).1 dead there is_first
      (subst (λ (n : ℕ). AreInBlocks n link links index.entries) there place.in_range.blocks) last

  -- into a new block
  pub begun_in_place : (links : List Link) (new : Link) → IsInPlace now row links index used → All FitsLink links → IsFullBy used links
      → new.first ≡ end_of row → entry.block ≡ new.block → charge_of entry.length ≤ 256
      → IsInPlace later next (trimmed next.first next.count (links ++ new ∷ [])) (index_behind_put gone entry index) (charge_of entry.length)
  begun_in_place [] new place fit full at last fits =
      let none : index.entries ≡ [] = place.in_range.blocks in
      let count : row.count ≡ 0 = eqb-true row.count 0 place.in_range.begins in
      let start : row.first ≡ at_spot new.first 0 = starts row.first row.count new.first low count at in
      let long : length index.entries ≡ 0 = ap length none in
      subst (IsInPlace later next (trimmed next.first next.count (new ∷ [])) (index_behind_put gone entry index)) (zero_more (charge_of entry.length))
      (put_in_place now later row next index 0 gone entry (rowed now row [] index used place.in_range) few le goes size placed room (omega (arith, fits))
      new.first 0 0 new [] (omega (arith, at)) (omega arith) start
      (omega (arith, at), omega arith, (omega (arith, long), omega (arith, ap pages_of none)))
      (subst (λ (l : List Entry). AreInBlocks (at_spot new.first 0) new [] l) (sym none) tt) last)
    where
      zero_more : (n : ℕ) → 0 + n ≡ n
      zero_more n = omega arith

      starts : (f n m : ℕ) → f < 4294967296 → n ≡ 0 → m ≡ (f + n) % 4294967296 → f ≡ (m + 0) % 4294967296
      starts f n m lt none is = omega (arith, lt, none, is)
  begun_in_place (link ∷ links) new place fit full at last fits =
      let (d, dead, there, is_first) = to_first now row link links index used place fit low few in
      let own = (All-head FitsLink link links fit).1 in
      let count = place.in_range.count in
      let ends : new.first ≡ at_spot link.first (d + length index.entries) =
      ends_there link.first d row.first row.count (length index.entries) new.first there count at in
      let some : 1 ≤ length index.entries = omega (arith, count, some_records row link links place.in_range.begins) in
      let (first, are) = longer link.first d (d + length index.entries) used index.entries new own refl (omega (arith, dead, count, few))
      full place.in_range.used_within ends 0 link links some is_first
      (subst (λ (n : ℕ). AreInBlocks n link links index.entries) there place.in_range.blocks) in
      subst (IsInPlace later next (trimmed next.first next.count (link ∷ links ++ new ∷ [])) (index_behind_put gone entry index)) (zero_more (charge_of entry.length))
      (put_in_place now later row next index 0 gone entry (rowed now row (link ∷ links) index used place.in_range) few le goes size placed room (omega (arith, fits))
      link.first d 0 link (links ++ new ∷ []) own dead there first are (last ∙ ap (λ (l : Link). l.block) (sym (last_more link new links))))
    where
      zero_more : (n : ℕ) → 0 + n ≡ n
      zero_more n = omega arith

      ends_there : (g d f n k m : ℕ) → f ≡ at_spot g d → k ≡ n → m ≡ (f + n) % 4294967296 → m ≡ at_spot g (d + k)
      ends_there g d f n k m is same at = omega (arith, is, same, at)

-- full blocks are few

laid_full : (g d e used : ℕ) (es : List Entry) (p : ℕ) (link : Link) (links : List Link) → d ≤ p → 240 ≤ used → Laid g d e used es p link links
    → 240 * suc (length links) ≤ pages_of (drop (p - d) es)
laid_full g d e used es p link [] from full laid = let was = laid.2 in omega (arith, was, full)
laid_full g d e used es p link (next ∷ links) from full laid =
    let (q, past, near, filled, behind) = laid.2 in
    let rest = laid_full g d e used es q next links (omega (arith, from, past)) full behind in
    let sum : p - d + (q - p) ≡ q - d = omega (arith, from, past) in
    let cut = ap pages_of (drop-drop (q - p) (p - d) es ∙ ap (λ (n : ℕ). drop n es) sum) in
    let parts = pages_rest (q - p) (drop (p - d) es) in
    omega (arith, rest, cut, parts, filled)

-- a store whose last block is full has room for one more
pub full_has_room : (now : ℕ) (row : Row) (links : List Link) (index : TimeIndex) (used : ℕ) → IsInPlace now row links index used → All FitsLink links
    → row.first < 4294967296 → row.count ≤ 100000 → IsFullBy used links → length links + 1 ≤ blocks_for_size row.size
full_has_room now row [] index used place fit low few full = omega arith
full_has_room now row (link ∷ []) index used place fit low few full = omega arith
full_has_room now row (link ∷ next ∷ links) index used place fit low few full =
    let (d, dead, there, is_first) = to_first now row link (next ∷ links) index used place fit low few in
    let (q, past, near, behind) = is_first.2 in
    let pages = laid_full link.first d (d + length index.entries) used index.entries q next links (omega (arith, past)) full behind in
    let parts = pages_rest (q - d) index.entries in
    let most = place.in_range.pages in
    omega (arith, pages, parts, most)
