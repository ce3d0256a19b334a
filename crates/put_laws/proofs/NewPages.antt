-- No record is read from a block that no link names, nor from behind the last record of a store.
use Rattle.std.proofs.Common.{◌≡◌, ℕ, ◌+◌, ◌*◌, ◌<◌, ◌≤◌, Bool, true, false, not, ◌&&◌, ◌||◌, ◌==◌, nat_le, nat_lt, List, [], ◌∷◌, ◌++◌, Option, Some, None, refl, sym, ◌∙◌, ap, arith}
use Rattle.std.specs.Prelude.{slice_get}
use Rattle.std.specs.List.{list_all, list_any}
use Rattle.std.proofs.lemmas.Bool.{and_from, and_parts, eqb-false, false_from_ne_true, leb-true, ltb-true, not-true, not_from_false, or_from}
use Rattle.std.proofs.lemmas.List.Folds.{list_all-append}
use Rattle.board.specs.Flash.{IsContent, pages_from, pages_of_block}
use Rattle.image_table.specs.Table.{in_records, table_by}
use Rattle.image_table.proofs.Frames.{data_tests, shared_links, table_loads}
use Rattle.pst_model.specs.Table.{Table}
use Rattle.put_laws.specs.Puts.{is_unnamed}
use Rattle.put_laws.proofs.Named.{links_around, named_by}
use Rattle.put_laws.proofs.Spots.{spot}
use Rattle.record_view.specs.Records.{Meaning}
use Rattle.record_view.specs.declared.link.Link.{Link}
use Rattle.store_directory.specs.Directory.{Directory, Listed, are_distinct, is_new}
use Rattle.store_directory.specs.declared.row.Row.{Row}
use Rattle.store_directory.proofs.Puts.{swapped}
use Rattle.store_load.specs.Claims.{all_links, are_apart, is_data, is_within, may_share, reserved_at}
use Rattle.store_load.specs.Extents.{Extent, end_of, extent_to, extents_from, last_of, pages_in, read_extent}
use Rattle.store_load.specs.Frame.{in_extent, in_store, pages_read}
use Rattle.store_load.specs.Moving.{used_by}
use Rattle.store_load.proofs.Records.{extent_within}

-- names in parts of a list

pub new_parts : (n : ℕ) (front back : List Link) → is_new n (named_by (front ++ back)) ≡ true → (is_new n (named_by front) ≡ true) × (is_new n (named_by back) ≡ true)
new_parts n [] back new = (refl, new)
new_parts n (x ∷ front) back new =
    let parts = and_parts (not (n == x.block)) (is_new n (named_by (front ++ back))) new in
    let rest = new_parts n front back parts.1 in
    (and_from (not (n == x.block)) (is_new n (named_by front)) parts.0 rest.0, rest.1)

distinct_front : (front back : List Link) → are_distinct (named_by (front ++ back)) ≡ true → are_distinct (named_by front) ≡ true
distinct_front [] back distinct = refl
distinct_front (x ∷ front) back distinct =
    let parts = and_parts (is_new x.block (named_by (front ++ back))) (are_distinct (named_by (front ++ back))) distinct in
    and_from (is_new x.block (named_by front)) (are_distinct (named_by front)) (new_parts x.block front back parts.0).0 (distinct_front front back parts.1)

other_last : (n : ℕ) (link : Link) (links : List Link) → is_new n (named_by (link ∷ links)) ≡ true → (n == (last_of link links).block) ≡ false
other_last n link [] new = not-true (n == link.block) (and_parts (not (n == link.block)) true new).0
other_last n link (next ∷ links) new = other_last n next links (and_parts (not (n == link.block)) (is_new n (named_by (next ∷ links))) new).1

last_behind : (link : Link) (links back : List Link) → are_distinct (named_by ((link ∷ links) ++ back)) ≡ true → is_new (last_of link links).block (named_by back) ≡ true
last_behind link [] back distinct = (and_parts (is_new link.block (named_by back)) (are_distinct (named_by back)) distinct).0
last_behind link (next ∷ links) back distinct =
    last_behind next links back
    (and_parts (is_new link.block (named_by ((next ∷ links) ++ back))) (are_distinct (named_by ((next ∷ links) ++ back))) distinct).1

-- the last of some links that stand among others names none of their blocks
pub record IsApart (front : List Link) (link : Link) (links back : List Link) : Type 0 where
  pub in_front : is_new (last_of link links).block (named_by front) ≡ true
  pub behind : is_new (last_of link links).block (named_by back) ≡ true
  pub own : are_distinct (named_by (link ∷ links)) ≡ true

last_apart : (front : List Link) (link : Link) (links back : List Link) → are_distinct (named_by (front ++ ((link ∷ links) ++ back))) ≡ true → IsApart front link links back
last_apart [] link links back distinct = record {
  in_front = refl;
  behind = last_behind link links back distinct;
  own = distinct_front (link ∷ links) back distinct;
}
last_apart (x ∷ front) link links back distinct =
    let rest = (link ∷ links) ++ back in
    let parts = and_parts (is_new x.block (named_by (front ++ rest))) (are_distinct (named_by (front ++ rest))) distinct in
    let here = last_apart front link links back parts.1 in
    let others = new_parts x.block front rest parts.0 in
    let apart = other_last x.block link links (new_parts x.block (link ∷ links) back others.1).0 in
    let last = (last_of link links).block in
    record {
      in_front = and_from (not (last == x.block)) (is_new last (named_by front)) (not_from_false (last == x.block) (swapped x.block last apart)) here.in_front;
      behind = here.behind;
      own = here.own;
    }

-- pages of a block

in_pages : (first n p : ℕ) → pages_from first n p ≡ true → (first ≤ p) × (p < first + n)
in_pages first n p h =
    let parts = and_parts (nat_le first p) (nat_lt p (first + n)) h in (leb-true first p parts.0, ltb-true p (first + n) parts.1)

module _ (blocks : ℕ) (image : ℕ → List ℕ) (content : IsContent blocks image) (p block : ℕ) (low : 256 * block ≤ p) (high : p < 256 * block + 256) where
  few : (extent : Extent) → extent.block < blocks → pages_read (read_extent image extent) ≤ 256
  few extent within = pick (read_extent image extent) (λ records h. extent_within blocks image content extent records within h)
    where
      pick : (o : Option (List Meaning)) → ((records : List Meaning) → o ≡ Some records → pages_in records ≤ 256) → pages_read o ≤ 256
      pick None h = omega arith
      pick (Some records) h = h records refl

  off_block : (extent : Extent) → extent.block < blocks → (block == extent.block) ≡ false → in_extent image p extent ≡ false
  off_block extent within other =
      false_from_ne_true (in_extent image p extent)
      (λ here. let (from, to) = in_pages (256 * extent.block) (pages_read (read_extent image extent)) p here in
      eqb-false block extent.block other (same extent.block from (omega (arith, to, few extent within))))
    where
      same : (other : ℕ) → 256 * other ≤ p → p < 256 * other + 256 → block ≡ other
      same other from to = omega (arith, from, to, low, high)

  off_extents : (end : ℕ) (link : Link) (links : List Link) → list_all (is_data blocks) (link ∷ links) ≡ true → is_new block (named_by (link ∷ links)) ≡ true
      → list_any (in_extent image p) (extents_from end link links) ≡ false
  off_extents end link [] own new =
      let within = data_tests blocks link.block (and_parts (is_data blocks link) true own).0 in
      or_from (in_extent image p (extent_to end link)) false
      (off_block (extent_to end link) within.1 (not-true (block == link.block) (and_parts (not (block == link.block)) true new).0)) refl
  off_extents end link (next ∷ links) own new =
      let owned = and_parts (is_data blocks link) (list_all (is_data blocks) (next ∷ links)) own in
      let within = data_tests blocks link.block owned.0 in
      let parts = and_parts (not (block == link.block)) (is_new block (named_by (next ∷ links))) new in
      or_from (in_extent image p (extent_to next.first link)) (list_any (in_extent image p) (extents_from end next links))
      (off_block (extent_to next.first link) within.1 (not-true (block == link.block) parts.0))
      (off_extents end next links owned.1 parts.1)

  off_store : (row : Row) (links : List Link) → list_all (is_data blocks) links ≡ true → is_new block (named_by links) ≡ true → in_store image p row links ≡ false
  off_store row [] own new = refl
  off_store row (link ∷ links) own new = off_extents (end_of row) link links own new

  pub off_stores : (stores : List Listed) → list_all (is_data blocks) (all_links stores) ≡ true → is_new block (named_by (all_links stores)) ≡ true
      → list_any (λ (s : Listed). in_store image p s.row s.links) stores ≡ false
  off_stores [] own new = refl
  off_stores (s ∷ stores) own new =
      let owned = and_parts (list_all (is_data blocks) s.links) (list_all (is_data blocks) (all_links stores))
      (sym (list_all-append (is_data blocks) s.links (all_links stores)) ∙ own) in
      let parts = new_parts block s.links (all_links stores) new in
      or_from (in_store image p s.row s.links) (list_any (λ (x : Listed). in_store image p x.row x.links) stores)
      (off_store s.row s.links owned.0 parts.0) (off_stores stores owned.1 parts.1)

  -- behind the last record
  pub off_last : (end : ℕ) (link : Link) (links : List Link) → list_all (is_data blocks) (link ∷ links) ≡ true → are_distinct (named_by (link ∷ links)) ≡ true
      → block ≡ (last_of link links).block → 256 * block + pages_read (read_extent image (extent_to end (last_of link links))) ≤ p
      → list_any (in_extent image p) (extents_from end link links) ≡ false
  off_last end link [] own distinct same past =
      or_from (in_extent image p (extent_to end link)) false
      (false_from_ne_true (in_extent image p (extent_to end link))
      (λ here. let (from, to) = in_pages (256 * link.block) (pages_read (read_extent image (extent_to end link))) p here in
      absurd (omega (arith, to, past, same))))
      refl
  off_last end link (next ∷ links) own distinct same past =
      let owned = and_parts (is_data blocks link) (list_all (is_data blocks) (next ∷ links)) own in
      let within = data_tests blocks link.block owned.0 in
      let parts = and_parts (is_new link.block (named_by (next ∷ links))) (are_distinct (named_by (next ∷ links))) distinct in
      let apart = swapped link.block (last_of next links).block (other_last link.block next links parts.0) in
      or_from (in_extent image p (extent_to next.first link)) (list_any (in_extent image p) (extents_from end next links))
      (off_block (extent_to next.first link) within.1 (ap (λ (n : ℕ). n == link.block) same ∙ apart))
      (off_last end next links owned.1 parts.1 same past)

-- the links of a directory's stores
pub shares : (blocks : ℕ) (stores : List Listed) → may_share 240 blocks stores ≡ true → are_distinct (named_by (all_links stores)) ≡ true
shares blocks stores h =
    let apart = (and_parts (nat_le (reserved_at 240 stores + 8) blocks && list_all (is_within 240) stores) (are_apart blocks (all_links stores)) h).1 in
    (and_parts (list_all (is_data blocks) (all_links stores)) (are_distinct (named_by (all_links stores))) apart).1

pub off_unnamed : (blocks : ℕ) (image : ℕ → List ℕ) (d : Directory) (table : Table) (block p : ℕ) → IsContent blocks image → table_by blocks image d ≡ Some table
    → is_unnamed block d ≡ true → pages_of_block block p ≡ true → in_records image p d ≡ false
off_unnamed blocks image d table block p content loads new here =
    let (low, high) = in_pages (256 * block) 256 p here in
    off_stores blocks image content p block low high d.stores (shared_links blocks d.stores (table_loads blocks image d table loads).share) new

any_around : (image : ℕ → List ℕ) (p : ℕ) (front : List Listed) (s : Listed) (back : List Listed)
    → list_any (λ (x : Listed). in_store image p x.row x.links) front ≡ false → in_store image p s.row s.links ≡ false
    → list_any (λ (x : Listed). in_store image p x.row x.links) back ≡ false
    → list_any (λ (x : Listed). in_store image p x.row x.links) (front ++ s ∷ back) ≡ false
any_around image p [] s back ahead here behind =
    or_from (in_store image p s.row s.links) (list_any (λ (x : Listed). in_store image p x.row x.links) back) here behind
any_around image p (x ∷ front) s back ahead here behind =
    let test : Listed → Bool = λ y. in_store image p y.row y.links in
    let first = off_one (test x) (list_any test front) ahead in
    or_from (test x) (list_any test (front ++ s ∷ back)) first.0 (any_around image p front s back first.1 here behind)
  where
    off_one : (a b : Bool) → (a || b) ≡ false → (a ≡ false) × (b ≡ false)
    off_one false b h = (refl, h)
    off_one true b h = absurd cc

pub off_behind : (blocks : ℕ) (image : ℕ → List ℕ) (d : Directory) (table : Table) (at : ℕ) (s : Listed) (link : Link) (links : List Link) (pages p : ℕ)
    → IsContent blocks image → table_by blocks image d ≡ Some table → slice_get d.stores at ≡ Some s → s.links ≡ link ∷ links
    → used_by image s.row link links + pages ≤ 256
    → pages_from (256 * (last_of link links).block + used_by image s.row link links) pages p ≡ true → in_records image p d ≡ false
off_behind blocks image d table at s link links pages p content loads listed some fits here =
    let share = (table_loads blocks image d table loads).share in
    let there = spot d.stores at s listed in
    let block = (last_of link links).block in
    let used = used_by image s.row link links in
    let (from, to) = in_pages (256 * block + used) pages p here in
    let low : 256 * block ≤ p = omega (arith, from) in
    let high : p < 256 * block + 256 = omega (arith, to, fits) in
    let all : all_links d.stores ≡ all_links there.front ++ ((link ∷ links) ++ all_links there.back) =
    ap all_links there.parted ∙ links_around there.front s there.back
    ∙ ap (λ (l : List Link). all_links there.front ++ (l ++ all_links there.back)) some in
    let apart = last_apart (all_links there.front) link links (all_links there.back)
    (ap (λ (l : List Link). are_distinct (named_by l)) (sym all) ∙ shares blocks d.stores share) in
    let owned : list_all (is_data blocks) (all_links there.front ++ ((link ∷ links) ++ all_links there.back)) ≡ true =
    ap (list_all (is_data blocks)) (sym all) ∙ shared_links blocks d.stores share in
    let outer = and_parts (list_all (is_data blocks) (all_links there.front)) (list_all (is_data blocks) ((link ∷ links) ++ all_links there.back))
    (sym (list_all-append (is_data blocks) (all_links there.front) ((link ∷ links) ++ all_links there.back)) ∙ owned) in
    let inner = and_parts (list_all (is_data blocks) (link ∷ links)) (list_all (is_data blocks) (all_links there.back))
    (sym (list_all-append (is_data blocks) (link ∷ links) (all_links there.back)) ∙ outer.1) in
    ap (list_any (λ (x : Listed). in_store image p x.row x.links)) there.parted
    ∙ any_around image p there.front s there.back
    (off_stores blocks image content p block low high there.front outer.0 apart.in_front)
    (ap (in_store image p s.row) some ∙ off_last blocks image content p block low high (end_of s.row) link links inner.0 apart.own refl from)
    (off_stores blocks image content p block low high there.back inner.1 apart.behind)
