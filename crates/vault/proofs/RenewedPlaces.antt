-- A store is in place behind the renewal of its last block, and shows the same packets.
use Rattle.std.proofs.Common.{◌≡◌, ℕ, ◌+◌, ◌%◌, ◌<◌, ◌≤◌, true, List, [], ◌∷◌, ◌++◌, All, length, map, take, drop, Some, refl, sym, ◌∙◌, ap, subst, arith, take-append-drop}
use Rattle.std.proofs.lemmas.List.{map-append}
use Rattle.std.proofs.lemmas.List.Sums.{sum_by-cons}
use Rattle.std.proofs.lemmas.Option.{none-some, same_Some}
use Rattle.image_table.specs.Table.{table_rule}
use Rattle.pst_model.specs.Table.{Store}
use Rattle.record_view.specs.declared.link.Link.{Link}
use Rattle.space_packet.specs.Charge.{charge_of}
use Rattle.store_directory.specs.Directory.{FitsLink, Listed, swap_last}
use Rattle.store_directory.specs.Rows.{between}
use Rattle.store_directory.specs.declared.row.Row.{Row}
use Rattle.store_directory.proofs.Steps.{some_then}
use Rattle.store_load.specs.Extents.{end_of, last_of}
use Rattle.store_load.specs.InRange.{AreFull}
use Rattle.store_load.specs.Renewing.{last_position, renewed}
use Rattle.store_policy.specs.Shown.{IsStoreShown, length_of}
use Rattle.store_put.specs.Ranges.{AreFew, AreFewIn, IsInPlace}
use Rattle.store_write.proofs.RangesOn.{in_range}
use Rattle.store_write.specs.Renewed.{last_entries, renewed_index, renewed_link}
use Rattle.time_index.specs.TimeIndex.{TimeIndex, pages_of, stamp_of}
use Rattle.time_index.specs.declared.entry.Entry.{Entry}
use Rattle.vault.specs.Memory.{has_link}

-- a store that has a block may have another last one
pub can_swap : (new : Link) (links : List Link) → has_link links ≡ true → (swapped : List Link) × (swap_last new links ≡ Some swapped)
can_swap new [] has = absurd (no has)
  where
    no : has_link [] ≡ true → ⊥
    no h = cc
can_swap new (link ∷ []) has = (new ∷ [], refl)
can_swap new (link ∷ next ∷ links) has =
    let (deeper, inner) = can_swap new (next ∷ links) refl in
    (link ∷ deeper, rw inner refl)

-- each entry takes a page at least
pages_least : (es : List Entry) → length es ≤ pages_of es
pages_least [] = omega arith
pages_least (e ∷ es) = let more = sum_by-cons (λ (e : Entry). charge_of e.length) e es in omega (arith, more, pages_least es)

full_last : (least number used : ℕ) (link : Link) (links : List Link) (entries : List Entry) → AreFull least number used link links entries
    → used ≡ pages_of (drop (between number (last_of link links).first) entries)
full_last least number used link [] entries full = full
full_last least number used link (next ∷ links) entries full = full_last least number used next links entries full.1

few_swapped : (used end : ℕ) (new link next : Link) (links swapped : List Link) → swap_last new (next ∷ links) ≡ Some swapped
    → new.first ≡ (last_of next links).first → AreFew used end link (next ∷ links) → AreFew used end link swapped
few_swapped used end new link next [] swapped made same few =
    subst (λ (l : List Link). AreFew used end link l) (same_Some (new ∷ []) swapped made)
    (subst (λ (n : ℕ). between link.first n ≤ 256) (sym same) few.0, subst (λ (n : ℕ). between n end ≤ used) (sym same) few.1)
few_swapped used end new link next (third ∷ links) swapped made same few =
    let (deeper, inner, last) = some_then (swap_last new (third ∷ links)) (λ (l : List Link). Some (next ∷ l)) swapped made in
    subst (λ (l : List Link). AreFew used end link l) (same_Some (next ∷ deeper) swapped last)
    (few.0, few_swapped used end new next third links deeper inner same few.1)

between_end : (first count : ℕ) → first < 4294967296 → count ≤ 100000 → between first ((first + count) % 4294967296) ≤ count
between_end first count low few = omega (arith, low, few)

module _ (now : ℕ) (row : Row) (index : TimeIndex) (used fresh : ℕ) (low : row.first < 4294967296) (most : row.count ≤ 100000) where
  few_renewed : (links swapped : List Link) → IsInPlace now row links index used → swap_last (renewed_link row links fresh) links ≡ Some swapped
      → AreFewIn (pages_of (last_entries row links index)) (end_of row) swapped
  few_renewed [] swapped place made = absurd (none-some swapped made)
  few_renewed (link ∷ []) swapped place made =
      let count = place.in_range.count in
      let least = pages_least index.entries in
      let apart = between_end row.first row.count low most in
      let all : pages_of (last_entries row (link ∷ []) index) ≡ pages_of index.entries = refl in
      subst (λ (l : List Link). AreFewIn (pages_of (last_entries row (link ∷ []) index)) (end_of row) l)
      (same_Some (renewed_link row (link ∷ []) fresh ∷ []) swapped made) (omega (arith, apart, least, count, all))
  few_renewed (link ∷ next ∷ links) swapped place made =
      let new = renewed_link row (link ∷ next ∷ links) fresh in
      let (deeper, inner, last) = some_then (swap_last new (next ∷ links)) (λ (l : List Link). Some (link ∷ l)) swapped made in
      let uses : used ≡ pages_of (last_entries row (link ∷ next ∷ links) index) =
      full_last 240 row.first used next links index.entries place.in_range.filled in
      subst (λ (l : List Link). AreFewIn (pages_of (last_entries row (link ∷ next ∷ links) index)) (end_of row) l)
      (same_Some (link ∷ deeper) swapped last)
      (subst (λ (n : ℕ). AreFew n (end_of row) link deeper) uses (few_swapped used (end_of row) new link next links deeper inner refl place.few))

  pub renewed_in_place : (links swapped : List Link) → All FitsLink links → IsInPlace now row links index used
      → swap_last (renewed_link row links fresh) links ≡ Some swapped
      → IsInPlace now row swapped (renewed_index row links fresh index) (pages_of (last_entries row links index))
  renewed_in_place links swapped own place made = record {
    in_range = in_range table_rule now row index used low most (omega arith) links (renewed_link row links fresh) swapped (λ i d lt. (own i d lt).1)
        place.in_range made refl;
    few = few_renewed links swapped place made;
  }

-- the stamps and the lengths stay

stamps_renewed : (block page : ℕ) (entries : List Entry) → map stamp_of (renewed block page entries) ≡ map stamp_of entries
stamps_renewed block page [] = refl
stamps_renewed block page (e ∷ entries) = ap (λ (l : List ℕ). e.stamp ∷ l) (stamps_renewed block (page + charge_of e.length) entries)

lengths_renewed : (block page : ℕ) (entries : List Entry) → map length_of (renewed block page entries) ≡ map length_of entries
lengths_renewed block page [] = refl
lengths_renewed block page (e ∷ entries) = ap (λ (l : List ℕ). e.length ∷ l) (lengths_renewed block (page + charge_of e.length) entries)

behind_kept : (f : Entry → ℕ) (k block : ℕ) (entries : List Entry) → map f (renewed block 0 (drop k entries)) ≡ map f (drop k entries)
    → map f (take k entries ++ renewed block 0 (drop k entries)) ≡ map f entries
behind_kept f k block entries same =
    map-append f (take k entries) (renewed block 0 (drop k entries))
    ∙ ap (λ (l : List ℕ). map f (take k entries) ++ l) same
    ∙ sym (map-append f (take k entries) (drop k entries))
    ∙ ap (map f) (take-append-drop k entries)

pub renewed_shown : (s : Listed) (swapped : List Link) (index : TimeIndex) (fresh : ℕ) (store : Store) → IsStoreShown store s index
    → IsStoreShown store (record s { links = swapped }) (renewed_index s.row s.links fresh index)
renewed_shown s swapped index fresh store is =
    let k = last_position s.row s.links in
    let shown = is.shown in
    record {
      shown = record {
        identifier = shown.identifier;
        kind = shown.kind;
        size = shown.size;
        channel = shown.channel;
        storage = shown.storage;
        open_on = shown.open_on;
        told = shown.told;
        behind = shown.behind;
        range = shown.range;
        packets = record {
          times = shown.packets.times ∙ sym (behind_kept stamp_of k fresh index.entries (stamps_renewed fresh 0 (drop k index.entries)));
          lengths = shown.packets.lengths ∙ sym (behind_kept length_of k fresh index.entries (lengths_renewed fresh 0 (drop k index.entries)));
        };
      };
      patterns = is.patterns;
    }
