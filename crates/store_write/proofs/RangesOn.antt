-- A store stays in range when its last block is renewed.
use Rattle.std.proofs.Common.{◌≡◌, ℕ, suc, ◌+◌, ◌%◌, ◌<◌, ◌≤◌, ◌&&◌, nat_lt, not, true, false}
use Rattle.std.proofs.Common.{List, [], ◌∷◌, ◌++◌, All, get_or, length, take, drop, Some, refl, sym, ◌∙◌}
use Rattle.std.proofs.Common.{ap, subst, arith}
use Rattle.std.proofs.lemmas.Bool.{not-true}
use Rattle.std.proofs.lemmas.List.{drop-map, length-drop, length-take-le, map-append, take-append-drop}
use Rattle.std.proofs.lemmas.List.Elements.{All-append, All-drop, All-head, All-tail, All-take}
use Rattle.std.proofs.lemmas.Option.{none-some, same_Some}
use Rattle.record_view.specs.declared.link.Link.{Link}
use Rattle.store_directory.specs.Directory.{swap_last}
use Rattle.store_directory.specs.Rows.{between, is_by}
use Rattle.store_directory.specs.declared.row.Row.{Row}
use Rattle.store_directory.proofs.Steps.{some_then}
use Rattle.store_load.specs.Extents.{end_of, last_of}
use Rattle.store_load.specs.InRange.{AreFilled, AreFull, AreInBlocks, IsInRange, IsPlaced, block_for}
use Rattle.store_load.specs.Kept.{begins_well}
use Rattle.store_load.specs.Renewing.{renewed, renewed_from}
use Rattle.store_load.specs.declared.rule.Rule.{Rule}
use Rattle.store_load.proofs.Counting.{low_by}
use Rattle.store_load.proofs.Eachs.{both, one, two}
use Rattle.store_load.proofs.PlacedLasts.{swapped_ends}
use Rattle.time_index.specs.TimeIndex.{TimeIndex, pages_of}
use Rattle.time_index.specs.declared.entry.Entry.{Entry}
use Rattle.store_write.specs.Renewed.{first_in_last, last_entries, renewed_index}
use Rattle.store_write.proofs.Offsets.{IsLow, IsUpTo, by_high, high_by, last_for, same_for, swapped_all, up_to_last}
use Rattle.store_write.proofs.Ranges.{alike, ascending_swapped, full_swapped, in_both, in_front, lengths, placed_renewed, renewed_in, renewed_lengths, same_in, same_pages}

module _ (rule : Rule) (now : ℕ) (row : Row) (index : TimeIndex) (used : ℕ) where
  -- the records of the last block fit one block
  last_used : (least number : ℕ) (link : Link) (links : List Link) (entries : List Entry)
      → AreFull least number used link links entries
      → used ≡ pages_of (drop (between number (last_of link links).first) entries)
  last_used least number link [] entries full = full
  last_used least number link (next ∷ links) entries full =
      last_used least number next links entries full.1

  pub last_fits : (links : List Link) → IsInRange rule now row links index used → 1 ≤ length links
      → pages_of (last_entries row links index) ≤ 256
  last_fits [] range linked = absurd (omega (arith, linked))
  last_fits (link ∷ []) range linked =
      let filled : pages_of index.entries ≤ used = range.filled in
      let within = range.used_within in
      omega (arith, filled, within)
  last_fits (link ∷ next ∷ links) range linked =
      let uses = last_used rule.least row.first next links index.entries range.filled in
      let within = range.used_within in
      omega (arith, uses, within)

module _ (rule : Rule) (now : ℕ) (row : Row) (index : TimeIndex) (used : ℕ)
    (low : row.first < 4294967296) (few : row.count ≤ 100000) (some : 1 ≤ rule.least) where
  -- stamps and lengths stay
  same_lengths : (k block : ℕ) → lengths (renewed_from k block index).entries
      ≡ lengths index.entries
  same_lengths k block =
      map-append (λ (e : Entry). e.length) (take k index.entries)
      (renewed block 0 (drop k index.entries))
      ∙ ap (λ (l : List ℕ). lengths (take k index.entries) ++ l)
      (renewed_lengths block 0 (drop k index.entries))
      ∙ sym (map-append (λ (e : Entry). e.length) (take k index.entries) (drop k index.entries))
      ∙ ap lengths (take-append-drop k index.entries)

  same_count : (k block : ℕ)
      → length (renewed_from k block index).entries ≡ length index.entries
  same_count k block = long (renewed_from k block index).entries index.entries
      (ap length (same_lengths k block))
    where
      many : (xs : List Entry) → length (lengths xs) ≡ length xs
      many [] = refl
      many (x ∷ xs) = ap suc (many xs)

      long : (xs ys : List Entry) → length (lengths xs) ≡ length (lengths ys) → length xs ≡ length ys
      long xs ys same = sym (many xs) ∙ same ∙ many ys

  placed_all_of : (links : List Link) (k block : ℕ) → IsInRange rule now row links index used
      → pages_of (drop k index.entries) ≤ 256
      → All (IsPlaced rule now) (renewed_from k block index).entries
  placed_all_of links k block range fits =
      All-append (IsPlaced rule now) (take k index.entries) (renewed block 0 (drop k index.entries))
      (All-take (IsPlaced rule now) k index.entries range.placed)
      (placed_renewed rule now block 0 (drop k index.entries)
      (All-drop (IsPlaced rule now) k index.entries range.placed) (omega (arith, fits)))

  -- an only block
  only : (link new : Link) → new.first ≡ row.first
      → IsInRange rule now row (link ∷ []) index used
      → IsInRange rule now row (new ∷ []) (renewed_from 0 new.block index) (pages_of index.entries)
  only link new same range =
      let filled : pages_of index.entries ≤ used = range.filled in
      let within = range.used_within in
      let fits : pages_of index.entries ≤ 256 = omega (arith, filled, within) in
      let at : between new.first row.first ≡ 0 = none new.first row.first same low in
      let end : between new.first (end_of row) ≡ row.count =
      ends new.first row.first row.count same low few in
      let cost = same_pages (renewed_from 0 new.block index).entries index.entries
      (same_lengths 0 new.block) in
      let start : (row.first + 0) % 4294967296 ≡ row.first = omega (arith, low) in
      record {
        begins = both (nat_lt 0 row.count) (is_by new.first row.first)
            (one (nat_lt 0 row.count) (is_by link.first row.first) range.begins)
            (low_by new.first row.first (omega (arith, at)));
        first = range.first;
        count = same_count 0 new.block ∙ range.count;
        size = range.size;
        pages = omega (arith, cost, range.pages);
        placed = placed_all_of (link ∷ []) 0 new.block range fits;
        blocks = subst (λ (n : ℕ). AreInBlocks n new [] (renewed new.block 0 index.entries)) start
            (renewed_in row.first 0 new.block 0 new [] index.entries (λ j low high. refl));
        order = (tt, low_by new.first (end_of row) (omega (arith, end, few)));
        filled = omega (arith, cost);
        used_within = fits;
      }
    where
      none : (a f : ℕ) → a ≡ f → f < 4294967296 → between a f ≡ 0
      none a f same lt = omega (arith, same, lt)

      ends : (a f n : ℕ) → a ≡ f → f < 4294967296 → n ≤ 100000
          → between a ((f + n) % 4294967296) ≡ n
      ends a f n same lt le = omega (arith, same, lt, le)

  -- behind others
  module _ (link next : Link) (links : List Link) (new : Link) (swapped : List Link)
      (own : All IsLow (link ∷ next ∷ links)) (same : new.first ≡ (last_of next links).first)
      (range : IsInRange rule now row (link ∷ next ∷ links) index used)
      (made : swap_last new (next ∷ links) ≡ Some swapped) where
    abbrev k : ℕ
    k = between row.first (last_of next links).first

    abbrev last : Link
    last = last_of next links

    past : is_by next.first row.first ≡ false
    past =
        not-true (is_by next.first row.first)
        (two (nat_lt 0 row.count && is_by link.first row.first) (not (is_by next.first row.first))
        range.begins)

    offsets : (k ≤ row.count) × All (IsUpTo row.first k) (next ∷ links)
    offsets =
        let own_rest = All-tail IsLow link (next ∷ links) own in
        up_to_last row.first row.count rule.least used index.entries low few some range.count next
        links own_rest
        (bound row.first next.first row.count low (All-head IsLow next links own_rest)
        (by_high next.first row.first past))
        range.filled range.order.0.1 range.order.1
      where
        bound : (f n c : ℕ) → f < 4294967296 → n < 4294967296 → 2147483648 ≤ between n f
            → between f n ≤ c + 2147483648
        bound f n c lf ln far = omega (arith, lf, ln, far)

    last_low : (a : Link) (rest : List Link) → All IsLow (a ∷ rest) → IsLow (last_of a rest)
    last_low a [] all = All-head IsLow a [] all
    last_low a (b ∷ bs) all = last_low b bs (All-tail IsLow a (b ∷ bs) all)

    last_is_low : IsLow last
    last_is_low = last_low next links (All-tail IsLow link (next ∷ links) own)

    -- the number of a position behind a link's first one, or in front of the last one's

    reached : (f l j : ℕ) → f < 4294967296 → l < 4294967296 → between f l ≤ j → j ≤ 100000
        → between l ((f + j) % 4294967296) < 2147483648
    reached f l j lf ll up most = omega (arith, lf, ll, up, most)

    missed : (f l j : ℕ) → f < 4294967296 → l < 4294967296 → j < between f l → between f l ≤ 100000
        → 2147483648 ≤ between l ((f + j) % 4294967296)
    missed f l j lf ll less most = omega (arith, lf, ll, less, most)

    before : (j : ℕ) → j < k → is_by last.first ((row.first + j) % 4294967296) ≡ false
    before j less =
        let most = offsets.0 in
        high_by last.first ((row.first + j) % 4294967296)
        (missed row.first last.first j low last_is_low less (omega (arith, most, few)))

    taken : length (take k index.entries) ≡ k
    taken = length-take-le k index.entries (omega (arith, offsets.0, range.count))

    last_is : last_of link swapped ≡ new
    last_is =
        let shape = swapped_ends new next links swapped made in
        ap (last_of link) shape.are ∙ shape.last

    held_by : (j : ℕ) → k ≤ j → j < row.count
        → block_for ((row.first + j) % 4294967296) link swapped ≡ new.block
    held_by j from to =
        let number = (row.first + j) % 4294967296 in
        let P : Link → Type 0 = λ l. is_by l.first number ≡ true in
        let own_rest = All-tail IsLow link (next ∷ links) own in
        let all : All P (next ∷ links) = λ i d lt.
        let up = offsets.1 i d lt in
        low_by (get_or (next ∷ links) i d).first number
        (reached row.first (get_or (next ∷ links) i d).first j low (own_rest i d lt)
        (omega (arith, up, from)) (omega (arith, to, few))) in
        let here : is_by new.first number ≡ true =
        ap (λ (n : ℕ). is_by n number) same
        ∙ low_by last.first number
        (reached row.first last.first j low last_is_low from (omega (arith, to, few))) in
        last_for number link swapped (swapped_all P new next links swapped made all here)
        ∙ ap (λ (l : Link). l.block) last_is

    in_blocks : AreInBlocks row.first link swapped
        (take k index.entries ++ renewed new.block 0 (drop k index.entries))
    in_blocks =
        let start : (row.first + 0) % 4294967296 ≡ row.first = omega (arith, low) in
        let rest = length-drop k index.entries in
        let count = range.count in
        let front : AreInBlocks ((row.first + 0) % 4294967296) link swapped
        (take k index.entries) =
        same_in row.first 0 link (next ∷ links) swapped (take k index.entries)
        (λ j from to. same_for ((row.first + j) % 4294967296) new link next links swapped made same
        (before j (omega (arith, to, taken))))
        (subst (λ (n : ℕ). AreInBlocks n link (next ∷ links) (take k index.entries)) (sym start)
        (in_front k row.first link (next ∷ links) index.entries range.blocks)) in
        let back : AreInBlocks ((row.first + (0 + length (take k index.entries))) % 4294967296) link
        swapped (renewed new.block 0 (drop k index.entries)) =
        renewed_in row.first (0 + length (take k index.entries)) new.block 0 link swapped
        (drop k index.entries)
        (λ j from to. held_by j (omega (arith, from, taken))
        (omega (arith, to, taken, rest, count, offsets.0))) in
        subst (λ (n : ℕ). AreInBlocks n link swapped
        (take k index.entries ++ renewed new.block 0 (drop k index.entries))) start
        (in_both row.first 0 link swapped (take k index.entries)
        (renewed new.block 0 (drop k index.entries)) front back)

    pub behind : IsInRange rule now row (link ∷ swapped) (renewed_from k new.block index)
        (pages_of (drop k index.entries))
    behind =
        let shape = alike new next links swapped made same in
        let uses = last_used rule now row index used rule.least row.first next links index.entries range.filled in
        let within = range.used_within in
        let fits : pages_of (drop k index.entries) ≤ 256 = omega (arith, uses, within) in
        let others = (renewed_from k new.block index).entries in
        let cost = same_pages others index.entries (same_lengths k new.block) in
        let lasts = full_last others (same_lengths k new.block) in
        record {
          begins =
              ap (λ (l : List Link). begins_well row (link ∷ l)) shape.are
              ∙ ap (λ (n : ℕ). nat_lt 0 row.count && is_by link.first row.first
              && not (is_by n row.first)) shape.same ∙ range.begins;
          first = range.first;
          count = same_count k new.block ∙ range.count;
          size = range.size;
          pages = omega (arith, cost, range.pages);
          placed = placed_all_of (link ∷ next ∷ links) k new.block range fits;
          blocks = in_blocks;
          order = (
            ascending_swapped new link next links swapped made same range.order.0,
            ap (λ (l : Link). is_by l.first (end_of row)) last_is
                ∙ ap (λ (n : ℕ). is_by n (end_of row)) same ∙ range.order.1,
          );
          filled = subst (λ (l : List Link). ByLinks l) (sym shape.are)
              (full_swapped rule.least row.first used (pages_of (drop k index.entries))
              index.entries others (same_lengths k new.block) new next links shape.head shape.tail
              (made ∙ ap Some shape.are) same lasts range.filled);
          used_within = fits;
        }
      where
        ByLinks : List Link → Type 0
        ByLinks l = AreFilled rule.least row.first (pages_of (drop k index.entries)) (link ∷ l)
            (renewed_from k new.block index).entries

        full_last : (others : List Entry) → lengths others ≡ lengths index.entries
            → pages_of (drop k index.entries)
            ≡ pages_of (drop (between row.first new.first) others)
        full_last others alike =
            same_pages (drop k index.entries) (drop k others)
            (sym (drop-map (λ (e : Entry). e.length) k index.entries)
            ∙ ap (drop k) (sym alike) ∙ drop-map (λ (e : Entry). e.length) k others)
            ∙ ap (λ (n : ℕ). pages_of (drop (between row.first n) others)) (sym same)

  -- whatever links it has
  pub in_range : (links : List Link) (new : Link) (swapped : List Link) → All IsLow links
      → IsInRange rule now row links index used → swap_last new links ≡ Some swapped
      → new.first ≡ first_in_last row links
      → IsInRange rule now row swapped (renewed_index row links new.block index)
      (pages_of (last_entries row links index))
  in_range [] new swapped own range made same = absurd (none-some swapped made)
  in_range (link ∷ []) new swapped own range made same =
      subst (λ (l : List Link). IsInRange rule now row l (renewed_from 0 new.block index)
      (pages_of index.entries)) (same_Some (new ∷ []) swapped made) (only link new same range)
  in_range (link ∷ next ∷ links) new swapped own range made same =
      let (deeper, inner, last) = some_then (swap_last new (next ∷ links))
      (λ (l : List Link). Some (link ∷ l)) swapped made in
      let k = between row.first (last_of next links).first in
      subst (λ (l : List Link). IsInRange rule now row l (renewed_from k new.block index)
      (pages_of (drop k index.entries))) (same_Some (link ∷ deeper) swapped last)
      (behind link next links new deeper own same range inner)
