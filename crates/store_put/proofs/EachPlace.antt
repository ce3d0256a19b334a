-- Stores that are in place, one after another.
use Rattle.std.proofs.Common.{◌≡◌, ℕ, zero, suc, ◌+◌, ◌≤◌, ◌&&◌, nat_lt, not, Bool, true, false, List, [], ◌∷◌, length, take, drop, slice_set, Some, refl, sym, ◌∙◌, ap, subst, arith, length-append, eqb-true}
use Rattle.std.specs.Prelude.{if◌then◌else◌, slice_get}
use Rattle.std.specs.List.{list_all}
use Rattle.std.proofs.lemmas.Bool.{and_parts, leb-true}
use Rattle.std.proofs.lemmas.Option.{none-some, same_Some}
use Rattle.block_pool.specs.Sizes.{blocks_for_size}
use Rattle.record_view.specs.declared.link.Link.{Link}
use Rattle.store_directory.specs.Directory.{Listed, reserved_by, trim_front, trimmed}
use Rattle.store_directory.specs.Rows.{is_by}
use Rattle.store_directory.specs.declared.row.Row.{Row}
use Rattle.store_load.specs.Claims.{all_links, blocks_at, is_within}
use Rattle.store_load.specs.Kept.{begins_well}
use Rattle.store_load.proofs.Eachs.{two}
use Rattle.store_policy.specs.Shown.{AreTogether}
use Rattle.time_index.specs.TimeIndex.{TimeIndex}
use Rattle.put_laws.specs.Puts.{told_row}
use Rattle.store_put.proofs.Going.{later_placed, some_records, trimmed_some}
use Rattle.store_put.specs.Ranges.{IsInPlace}
use Rattle.store_put.specs.Walking.{EachInPlace, PlaceAt}

pub each_at : (now : ℕ) (stores : List Listed) (indexes : List TimeIndex) (useds : List ℕ) (at : ℕ) (s : Listed)
    → EachInPlace now stores indexes useds → slice_get stores at ≡ Some s → PlaceAt now indexes useds at s
each_at now [] indexes useds at s each is = absurd (none-some s is)
each_at now (x ∷ stores) [] useds at s each is = absurd each
each_at now (x ∷ stores) (i ∷ indexes) [] at s each is = absurd each
each_at now (x ∷ stores) (i ∷ indexes) (u ∷ useds) zero s each is = record {
  index = i;
  used = u;
  here = refl;
  in_use = refl;
  place = subst (λ (x : Listed). IsInPlace now x.row x.links i u) (same_Some x s is) each.0;
}
each_at now (x ∷ stores) (i ∷ indexes) (u ∷ useds) (suc at) s each is =
    let rest = each_at now stores indexes useds at s each.1 is in
    record { index = rest.index; used = rest.used; here = rest.here; in_use = rest.in_use; place = rest.place }

pub each_set : (now : ℕ) (stores : List Listed) (indexes : List TimeIndex) (useds : List ℕ) (at : ℕ) (s new : Listed) (index : TimeIndex) (used : ℕ)
    → EachInPlace now stores indexes useds → slice_get stores at ≡ Some s → IsInPlace now new.row new.links index used
    → EachInPlace now (slice_set stores at new) (slice_set indexes at index) (slice_set useds at used)
each_set now [] indexes useds at s new index used each is place = absurd (none-some s is)
each_set now (x ∷ stores) [] useds at s new index used each is place = absurd each
each_set now (x ∷ stores) (i ∷ indexes) [] at s new index used each is place = absurd each
each_set now (x ∷ stores) (i ∷ indexes) (u ∷ useds) zero s new index used each is place = (place, each.1)
each_set now (x ∷ stores) (i ∷ indexes) (u ∷ useds) (suc at) s new index used each is place =
    (each.0, each_set now stores indexes useds at s new index used each.1 is place)

-- a store with another row or other links, of which the index stays
pub each_kept : (now : ℕ) (stores : List Listed) (indexes : List TimeIndex) (useds : List ℕ) (at : ℕ) (s new : Listed)
    → EachInPlace now stores indexes useds → slice_get stores at ≡ Some s
    → ((index : TimeIndex) (used : ℕ) → IsInPlace now s.row s.links index used → IsInPlace now new.row new.links index used)
    → EachInPlace now (slice_set stores at new) indexes useds
each_kept now [] indexes useds at s new each is goes = absurd (none-some s is)
each_kept now (x ∷ stores) [] useds at s new each is goes = absurd each
each_kept now (x ∷ stores) (i ∷ indexes) [] at s new each is goes = absurd each
each_kept now (x ∷ stores) (i ∷ indexes) (u ∷ useds) zero s new each is goes =
    (goes i u (subst (λ (x : Listed). IsInPlace now x.row x.links i u) (same_Some x s is) each.0), each.1)
each_kept now (x ∷ stores) (i ∷ indexes) (u ∷ useds) (suc at) s new each is goes =
    (each.0, each_kept now stores indexes useds at s new each.1 is goes)

-- at a later time
later_place : (now later : ℕ) (row : Row) (links : List Link) (index : TimeIndex) (used : ℕ) → now ≤ later → IsInPlace now row links index used
    → IsInPlace later row links index used
later_place now later row links index used le place =
    let range = place.in_range in
    record {
      in_range = record {
        first = range.first;
        count = range.count;
        size = range.size;
        pages = range.pages;
        placed = later_placed now later index.entries le range.placed;
        blocks = range.blocks;
        order = range.order;
        filled = range.filled;
        used_within = range.used_within;
        begins = range.begins;
      };
      few = place.few;
    }

pub each_later : (now later : ℕ) (stores : List Listed) (indexes : List TimeIndex) (useds : List ℕ) → now ≤ later
    → EachInPlace now stores indexes useds → EachInPlace later stores indexes useds
each_later now later [] [] [] le each = tt
each_later now later [] [] (u ∷ useds) le each = absurd each
each_later now later [] (i ∷ indexes) useds le each = absurd each
each_later now later (x ∷ stores) [] useds le each = absurd each
each_later now later (x ∷ stores) (i ∷ indexes) [] le each = absurd each
each_later now later (x ∷ stores) (i ∷ indexes) (u ∷ useds) le each =
    (later_place now later x.row x.links i u le each.0, each_later now later stores indexes useds le each.1)

-- the row and the index of a store in place
pub place_together : (now : ℕ) (row : Row) (links : List Link) (index : TimeIndex) (used : ℕ) → IsInPlace now row links index used → AreTogether row index
place_together now row links index used place =
    record { first = place.in_range.first; count = place.in_range.count; size = place.in_range.size }

-- a store that begins well has no link too many
trims_none : (row : Row) (links : List Link) → begins_well row links ≡ true → trimmed row.first row.count links ≡ links
trims_none row [] begins = ap (λ (n : ℕ). trimmed row.first n []) (eqb-true row.count 0 begins)
trims_none row (link ∷ []) begins = trimmed_some row.first row.count link [] (some_records row link [] begins)
trims_none row (link ∷ next ∷ links) begins =
    trimmed_some row.first row.count link (next ∷ links) (some_records row link (next ∷ links) begins)
    ∙ ap (λ (b : Bool). if b then trim_front row.first next links else link ∷ next ∷ links)
    (not_so (is_by next.first row.first) (two (nat_lt 0 row.count && is_by link.first row.first) (not (is_by next.first row.first)) begins))
  where
    not_so : (b : Bool) → not b ≡ true → b ≡ false
    not_so true h = sym h
    not_so false h = refl

-- a store that tells a refusal stays in place
pub told_place : (now : ℕ) (row : Row) (links : List Link) (index : TimeIndex) (used : ℕ) → IsInPlace now row links index used
    → IsInPlace now (told_row row) (trimmed row.first row.count links) index used
told_place now row links index used place =
    let range = place.in_range in
    subst (λ (l : List Link). IsInPlace now (told_row row) l index used) (sym (trims_none row links place.in_range.begins))
    (record {
      in_range = record {
        first = range.first;
        count = range.count;
        size = range.size;
        pages = range.pages;
        placed = range.placed;
        blocks = range.blocks;
        order = range.order;
        filled = range.filled;
        used_within = range.used_within;
        begins = told_begins row links range.begins;
      };
      few = place.few;
    })
  where
    told_begins : (row : Row) (links : List Link) → begins_well row links ≡ true → begins_well (told_row row) links ≡ true
    told_begins row [] h = h
    told_begins row (link ∷ []) h = h
    told_begins row (link ∷ next ∷ links) h = h

-- the blocks that the stores may have taken

pub reserved_next : (at : ℕ) (stores : List Listed) (s : Listed) → slice_get stores at ≡ Some s
    → reserved_by (take (suc at) stores) ≡ reserved_by (take at stores) + blocks_for_size s.size
reserved_next at [] s is = absurd (none-some s is)
reserved_next zero (x ∷ stores) s is = let same = ap (λ (l : Listed). blocks_for_size l.size) (same_Some x s is) in omega (arith, same)
reserved_next (suc at) (x ∷ stores) s is = let rest = reserved_next at stores s is in omega (arith, rest)

pub links_next : (at : ℕ) (stores : List Listed) (s : Listed) → slice_get stores at ≡ Some s
    → length (all_links (drop at stores)) ≡ length s.links + length (all_links (drop (suc at) stores))
links_next at [] s is = absurd (none-some s is)
links_next zero (x ∷ stores) s is =
    let same = ap (λ (l : Listed). length l.links) (same_Some x s is) in let sum = length-append x.links (all_links stores) in omega (arith, same, sum)
links_next (suc at) (x ∷ stores) s is = links_next at stores s is

pub reserved_rest : (at : ℕ) (stores : List Listed) → reserved_by (take at stores) + reserved_by (drop at stores) ≡ reserved_by stores
reserved_rest zero stores = omega arith
reserved_rest (suc at) [] = omega arith
reserved_rest (suc at) (x ∷ stores) = let rest = reserved_rest at stores in omega (arith, rest)

-- no store has more links than it reserves blocks
pub links_within : (stores : List Listed) → list_all (is_within 240) stores ≡ true → length (all_links stores) ≤ reserved_by stores
links_within [] all = omega arith
links_within (s ∷ stores) all =
    let parts = and_parts (is_within 240 s) (list_all (is_within 240) stores) all in
    let own : length s.links ≤ blocks_for_size s.size = leb-true (length s.links) (blocks_at 240 s.size) parts.0 in
    let rest = links_within stores parts.1 in
    let long = length-append s.links (all_links stores) in
    omega (arith, own, rest, long)

pub within_rest : (at : ℕ) (stores : List Listed) → list_all (is_within 240) stores ≡ true → list_all (is_within 240) (drop at stores) ≡ true
within_rest zero stores all = all
within_rest (suc at) [] all = all
within_rest (suc at) (x ∷ stores) all = within_rest at stores (and_parts (is_within 240 x) (list_all (is_within 240) stores) all).1
