-- What holds of each store that was loaded.
use Rattle.std.proofs.Common.{◌≡◌, ℕ, zero, suc, ◌+◌, ◌-◌, ◌*◌, ◌%◌, ◌<◌, ◌≤◌, ◌&&◌, nat_le, nat_lt, not, Bool, true, false, List, [], ◌∷◌, ◌++◌, All, get_or, length, drop, map, Some, refl, sym, ◌∙◌, ap, subst, arith, append-nil, length-append, length-drop, eqb-true}
use Rattle.std.specs.Prelude.{⊤}
use Rattle.std.proofs.lemmas.Bool.{and_parts, leb-true}
use Rattle.std.proofs.lemmas.List.{drop-drop, drop-map, map-append}
use Rattle.std.proofs.Math.Seq.{drop-append_seam}
use Rattle.std.proofs.lemmas.List.Sums.{sum_by-take-drop}
use Rattle.std.proofs.lemmas.List.Elements.{All-append, All-cons, All-drop, All-head, All-nil, All-tail}
use Rattle.std.proofs.lemmas.Option.{same_Some}
use Rattle.space_packet.specs.Charge.{charge_of}
use Rattle.record_view.specs.Records.{Meaning}
use Rattle.record_view.specs.declared.link.Link.{Link}
use Rattle.record_view.proofs.Spelling.{spells_read}
use Rattle.store_directory.specs.Rows.{between, is_by, is_lawful_row}
use Rattle.store_directory.specs.declared.row.Row.{Row}
use Rattle.time_index.specs.TimeIndex.{TimeIndex, pages_of}
use Rattle.time_index.specs.declared.entry.Entry.{Entry}
use Rattle.store_load.specs.Extents.{AreGiven, Extent, all_records, end_of, extent_to, extents_from, extents_of, joined, last_read, pages_in}
use Rattle.store_load.specs.Held.{IsHeld}
use Rattle.store_load.specs.InRange.{AreFilled, AreInBlocks, AreInLinks, AreInOrder, IsInRange, IsPlaced}
use Rattle.store_load.specs.Keeping.{IsLinkOf}
use Rattle.store_load.specs.Kept.{are_filled, are_short, begins_well, dead_by, live_of, may_keep, rise_to}
use Rattle.store_load.specs.Loaded.{index_with, placed, placed_all}
use Rattle.store_load.specs.Loading.{entry_at}
use Rattle.store_load.specs.declared.rule.Rule.{Rule}
use Rattle.store_load.proofs.Counting.{all_counted, all_few, first_by}
use Rattle.store_load.proofs.Eachs.{both, given_then, one, two}
use Rattle.store_load.proofs.Full.{are_full, few_dead, placed_pages}
use Rattle.store_load.proofs.InRange.{all_many, from_start, in_blocks, in_order, in_rest, placed_many}
use Rattle.store_load.proofs.Indexed.{all_lengths}
use Rattle.store_load.proofs.Records.{few_records, given_length, given_within, records_cons, records_none}
use Rattle.store_load.proofs.Rows.{row_numbers}
use Rattle.store_load.proofs.Takings.{pages_match}
use Rattle.store_load.proofs.TakenOn.{given_many}

-- an entry's place lies in one block, whatever its stamp
record HasPlace (largest : ℕ) (entry : Entry) : Type 0 where
  pub shortest : 7 ≤ entry.length
  pub longest : entry.length ≤ largest
  pub within : entry.page + charge_of entry.length ≤ 256

-- the records of one block
places : (largest block : ℕ) (octets : List ℕ) (count number page : ℕ) (records : List Meaning) → length octets ≡ 65536
    → all_records octets count number page ≡ Some records → are_short largest records ≡ true
    → All (HasPlace largest) (placed block page records)
places largest block octets zero number page records whole is short =
    subst (λ (l : List Meaning). All (HasPlace largest) (placed block page l))
    (same_Some [] records (sym (records_none octets number page) ∙ is)) (All-nil (HasPlace largest))
places largest block octets (suc count) number page records whole is short =
    let (m, rest, here, behind, same) = records_cons octets count number page records is in
    let spells = spells_read octets number page m whole here in
    let fits = subst (λ (l : List Meaning). are_short largest l ≡ true) (sym same) short in
    subst (λ (l : List Meaning). All (HasPlace largest) (placed block page l)) same
    (All-cons (HasPlace largest) (entry_at block page m) (placed block (page + charge_of (length m.packet)) rest)
    (record {
      shortest = spells.packet.at_least;
      longest = leb-true (length m.packet) largest (one (nat_le (length m.packet) largest) (are_short largest rest) fits);
      within = spells.within;
    })
    (places largest block octets count _ (page + charge_of (length m.packet)) rest whole behind
    (two (nat_le (length m.packet) largest) (are_short largest rest) fits)))

short_front : (largest : ℕ) (xs ys : List Meaning) → are_short largest (xs ++ ys) ≡ true → (are_short largest xs ≡ true) × (are_short largest ys ≡ true)
short_front largest [] ys h = (refl, h)
short_front largest (x ∷ xs) ys h =
    let rest = short_front largest xs ys (two (nat_le (length x.packet) largest) (are_short largest (xs ++ ys)) h) in
    (both (nat_le (length x.packet) largest) (are_short largest xs) (one (nat_le (length x.packet) largest) (are_short largest (xs ++ ys)) h) rest.0, rest.1)

all_places : (largest : ℕ) (extents : List Extent) (reads : List (List Meaning)) → AreGiven extents reads
    → are_short largest (joined reads) ≡ true → All (HasPlace largest) (placed_all extents reads)
all_places largest [] [] given short = All-nil (HasPlace largest)
all_places largest [] (records ∷ reads) given short = absurd given
all_places largest (extent ∷ extents) [] given short = absurd given
all_places largest (extent ∷ extents) (records ∷ reads) given short =
    let parts = short_front largest records (joined reads) short in
    All-append (HasPlace largest) (placed extent.block 0 records) (placed_all extents reads)
    (places largest extent.block given.0.block extent.count extent.first 0 records given.0.whole given.0.spelled parts.0)
    (all_places largest extents reads given.1 parts.1)

-- entries of the stamps of records
stamps_by : (now from : ℕ) (entries : List Entry) (records : List Meaning)
    → map (λ (e : Entry). e.stamp) entries ≡ map (λ (m : Meaning). m.stamp) records → rise_to now from records ≡ true
    → All (λ (e : Entry). e.stamp ≤ now) entries
stamps_by now from [] records same rise = All-nil (λ (e : Entry). e.stamp ≤ now)
stamps_by now from (e ∷ entries) [] same rise = absurd (omega (arith, ap length same))
stamps_by now from (e ∷ entries) (m ∷ records) same rise =
    let stamp : e.stamp ≡ m.stamp = ap (λ l. get_or l 0 0) same in
    let first = one (nat_le from m.stamp && nat_le m.stamp now) (rise_to now m.stamp records) rise in
    let low = leb-true m.stamp now (two (nat_le from m.stamp) (nat_le m.stamp now) first) in
    All-cons (λ (x : Entry). x.stamp ≤ now) e entries (omega (arith, stamp, low))
    (stamps_by now m.stamp entries records (ap (drop 1) same)
    (two (nat_le from m.stamp && nat_le m.stamp now) (rise_to now m.stamp records) rise))

last_within : (extents : List Extent) (reads : List (List Meaning)) → AreGiven extents reads → pages_in (last_read reads) ≤ 256
last_within [] [] given = omega arith
last_within [] (records ∷ reads) given = absurd given
last_within (extent ∷ extents) [] given = absurd given
last_within (extent ∷ extents) (records ∷ []) given = given_within extent records given.0
last_within (extent ∷ []) (records ∷ next ∷ reads) given = absurd given.1
last_within (extent ∷ other ∷ extents) (records ∷ next ∷ reads) given = last_within (other ∷ extents) (next ∷ reads) given.1

with_stamps : (rule : Rule) (now : ℕ) (entries : List Entry) → All (HasPlace rule.largest) entries → All (λ (e : Entry). e.stamp ≤ now) entries
    → All (IsPlaced rule now) entries
with_stamps rule now entries places stamps k d lt =
    let place = places k d lt in
    record { stamp = stamps k d lt; shortest = place.shortest; longest = place.longest; within = place.within }

placed_stamps : (block page : ℕ) (records : List Meaning) → map (λ (e : Entry). e.stamp) (placed block page records) ≡ map (λ (m : Meaning). m.stamp) records
placed_stamps block page [] = refl
placed_stamps block page (m ∷ records) = ap (λ (l : List ℕ). m.stamp ∷ l) (placed_stamps block (page + charge_of (length m.packet)) records)

all_stamps : (extents : List Extent) (reads : List (List Meaning)) → length reads ≡ length extents
    → map (λ (e : Entry). e.stamp) (placed_all extents reads) ≡ map (λ (m : Meaning). m.stamp) (joined reads)
all_stamps [] [] many = refl
all_stamps [] (records ∷ reads) many = absurd (omega (arith, many))
all_stamps (extent ∷ extents) [] many = absurd (omega (arith, many))
all_stamps (extent ∷ extents) (records ∷ reads) many =
    map-append (λ (e : Entry). e.stamp) (placed extent.block 0 records) (placed_all extents reads)
    ∙ (λ i. placed_stamps extent.block 0 records i ++ all_stamps extents reads (omega (arith, many)) i)
    ∙ sym (map-append (λ (m : Meaning). m.stamp) records (joined reads))

module _ (rule : Rule) (blocks now : ℕ) (row : Row) (links : List Link) (index : TimeIndex) (used : ℕ)
    (held : IsHeld rule now row links index used) (own : All (IsLinkOf blocks) links) (few : length links ≤ 512)
    (some : 1 ≤ rule.least) (lawful : is_lawful_row row ≡ true) (low : row.first < 4294967296) where
  -- the entries of all records, dead ones too, and how many are dead
  all_entries : List Entry
  all_entries = placed_all (extents_of row links) held.reads

  dead : ℕ
  dead = dead_by row.first links

  live : List Meaning
  live = live_of row links held.reads

  made : (may_keep rule now row.size held.reads live ≡ true) × (index_with row (drop dead all_entries) ≡ index)
  unfolding all_entries dead live
  made =
      let parts = given_then (may_keep rule now row.size held.reads (live_of row links held.reads))
      (λ (_ : ⊤). Some (index_with row (drop (dead_by row.first links) (placed_all (extents_of row links) held.reads)))) index held.index_is in
      (parts.0, same_Some (index_with row (drop (dead_by row.first links) (placed_all (extents_of row links) held.reads))) index parts.1)

  entries_are : index.entries ≡ drop dead all_entries
  entries_are = ap (λ (i : TimeIndex). i.entries) (sym made.1)

  kept : (are_filled rule.least held.reads ≡ true) × (are_short rule.largest (joined held.reads) ≡ true)
      × (rise_to now 0 live ≡ true) × (pages_in live ≤ row.size)
  kept =
      let last = and_parts (are_filled rule.least held.reads && are_short rule.largest (joined held.reads) && rise_to now 0 live) (nat_le (pages_in live) row.size) made.0 in
      let middle = and_parts (are_filled rule.least held.reads && are_short rule.largest (joined held.reads)) (rise_to now 0 live) last.0 in
      let front = and_parts (are_filled rule.least held.reads) (are_short rule.largest (joined held.reads)) middle.0 in
      (front.0, front.1, middle.1, leb-true (pages_in live) row.size last.1)

  numbers : (row.size ≤ 100000) × (row.count ≤ row.size)
  numbers = row_numbers row lawful

  total : length (joined held.reads) ≡ dead + row.count
  unfolding dead
  total =
      all_counted blocks row links held.reads held.begins own few low (omega (arith, numbers.0, numbers.1)) held.given

  few_all : length (joined held.reads) ≤ 256 * 512
  few_all = let most = all_few row links held.reads held.given in omega (arith, most, few)

  many : length all_entries ≡ length (joined held.reads)
  unfolding all_entries
  many = by_links links held.reads held.given
    where
      by_links : (others : List Link) (reads : List (List Meaning)) → AreGiven (extents_of row others) reads
          → length (placed_all (extents_of row others) reads) ≡ length (joined reads)
      by_links [] [] given = refl
      by_links [] (records ∷ reads) given = absurd given
      by_links (link ∷ rest) reads given = all_many blocks (end_of row) link rest reads given

  count : length index.entries ≡ row.count
  count =
      let cut = length-drop dead all_entries in
      ap length entries_are ∙ omega (arith, cut, many, total)

  pages : pages_of index.entries ≤ row.size
  unfolding all_entries dead live
  pages =
      let cost : pages_of index.entries ≡ pages_in live =
      ap pages_of entries_are
      ∙ pages_match (dead_by row.first links) (placed_all (extents_of row links) held.reads) (joined held.reads)
      (all_lengths (extents_of row links) held.reads (given_many (extents_of row links) held.reads held.given)) in
      omega (arith, cost, kept.3)

  placed_well : All (IsPlaced rule now) index.entries
  unfolding all_entries dead live
  placed_well =
      let stamps : map (λ (e : Entry). e.stamp) (drop (dead_by row.first links) (placed_all (extents_of row links) held.reads))
      ≡ map (λ (m : Meaning). m.stamp) (live_of row links held.reads) =
      sym (drop-map (λ (e : Entry). e.stamp) (dead_by row.first links) (placed_all (extents_of row links) held.reads))
      ∙ ap (drop (dead_by row.first links)) (all_stamps (extents_of row links) held.reads (given_many (extents_of row links) held.reads held.given))
      ∙ drop-map (λ (m : Meaning). m.stamp) (dead_by row.first links) (joined held.reads) in
      subst (All (IsPlaced rule now)) (sym entries_are)
      (with_stamps rule now (drop (dead_by row.first links) (placed_all (extents_of row links) held.reads))
      (All-drop (HasPlace rule.largest) (dead_by row.first links) (placed_all (extents_of row links) held.reads)
      (all_places rule.largest (extents_of row links) held.reads held.given kept.1))
      (stamps_by now 0 (drop (dead_by row.first links) (placed_all (extents_of row links) held.reads)) (live_of row links held.reads) stamps kept.2))

  in_links : AreInLinks row.first links index.entries
  unfolding all_entries dead
  in_links = by_links links refl
    where
      by_links : (others : List Link) → links ≡ others → AreInLinks row.first others index.entries
      by_links [] same = none index.entries (count ∙ eqb-true row.count 0 (sym (ap (begins_well row) same) ∙ held.begins))
        where
          none : (entries : List Entry) → length entries ≡ 0 → entries ≡ []
          none [] h = refl
          none (e ∷ entries) h = absurd (omega (arith, h))
      by_links (link ∷ rest) same =
          let own_all = subst (All (IsLinkOf blocks)) same own in
          let here = (All-head (IsLinkOf blocks) link rest own_all).first in
          let given = subst (λ (l : List Link). AreGiven (extents_of row l) held.reads) same held.given in
          let placed_here = placed_all (extents_from (end_of row) link rest) held.reads in
          let all : AreInBlocks link.first link rest placed_here = in_blocks blocks (end_of row) link rest held.reads own_all given (omega (arith, few_all)) in
          let is_dead : dead_by row.first links ≡ between link.first row.first = ap (dead_by row.first) same in
          let moved = in_rest link.first 0 (between link.first row.first) link rest placed_here
          (subst (λ (n : ℕ). AreInBlocks n link rest placed_here) (sym (from_start link.first here)) all) in
          let there : (link.first + 0 + between link.first row.first) % 4294967296 ≡ row.first = omega (arith, here, low) in
          let entries : index.entries ≡ drop (between link.first row.first) placed_here =
          entries_are ∙ (λ i. drop (is_dead i) (placed_all (extents_of row (same i)) held.reads)) in
          subst (AreInBlocks row.first link rest) (sym entries)
          (subst (λ (n : ℕ). AreInBlocks n link rest (drop (between link.first row.first) placed_here)) there moved)

  ordered : AreInOrder (end_of row) links
  ordered = by_links links own (held.given)
    where
      by_links : (others : List Link) → All (IsLinkOf blocks) others → AreGiven (extents_of row others) held.reads → AreInOrder (end_of row) others
      by_links [] own_all given = tt
      by_links (link ∷ rest) own_all given = in_order blocks (end_of row) rule.least link rest held.reads own_all given kept.0 some (omega arith)

  filled : AreFilled rule.least row.first used links index.entries
  unfolding all_entries dead
  filled = by_links links held.reads refl refl
    where
      by_links : (others : List Link) (reads : List (List Meaning)) → links ≡ others → held.reads ≡ reads → AreFilled rule.least row.first used others index.entries
      by_links [] [] same are = held.used_is ∙ ap (λ (l : List (List Meaning)). pages_in (last_read l)) are
      by_links [] (records ∷ reads) same are =
          absurd (subst (λ (l : List Link). AreGiven (extents_of row l) (records ∷ reads)) same (subst (AreGiven (extents_of row links)) are held.given))
      by_links (link ∷ []) [] same are =
          absurd (subst (λ (l : List Link). AreGiven (extents_of row l) []) same (subst (AreGiven (extents_of row links)) are held.given))
      by_links (link ∷ []) (records ∷ next ∷ reads) same are =
          absurd (subst (λ (l : List Link). AreGiven (extents_of row l) (records ∷ next ∷ reads)) same (subst (AreGiven (extents_of row links)) are held.given)).1
      by_links (link ∷ []) (records ∷ []) same are =
          let entries : index.entries ≡ drop (dead_by row.first links) (placed link.block 0 records ++ []) =
          entries_are ∙ (λ i. drop (dead_by row.first links) (placed_all (extents_of row (same i)) (are i))) in
          let cost = ap pages_of (append-nil (placed link.block 0 records)) ∙ placed_pages link.block records in
          let parts = sum_by-take-drop (λ (e : Entry). charge_of e.length) (placed link.block 0 records ++ []) (dead_by row.first links) in
          let uses : used ≡ pages_in records = held.used_is ∙ ap (λ (l : List (List Meaning)). pages_in (last_read l)) are in
          omega (arith, ap pages_of entries, cost, parts, uses)
      by_links (link ∷ next ∷ rest) [] same are =
          absurd (subst (λ (l : List Link). AreGiven (extents_of row l) []) same (subst (AreGiven (extents_of row links)) are held.given))
      by_links (link ∷ next ∷ rest) (records ∷ []) same are =
          absurd (none rest
          (subst (λ (l : List Link). AreGiven (extents_of row l) (records ∷ [])) same (subst (AreGiven (extents_of row links)) are held.given)).1)
        where
          none : (others : List Link) → AreGiven (extents_from (end_of row) next others) [] → ⊥
          none [] given = given
          none (third ∷ others) given = given
      by_links (link ∷ next ∷ rest) (records ∷ second ∷ reads) same are =
          let own_all = subst (All (IsLinkOf blocks)) same own in
          let own_rest = All-tail (IsLinkOf blocks) link (next ∷ rest) own_all in
          let here = (All-head (IsLinkOf blocks) link (next ∷ rest) own_all).first in
          let there = (All-head (IsLinkOf blocks) next rest own_rest).first in
          let given = subst (λ (l : List Link). AreGiven (extents_of row l) (records ∷ second ∷ reads)) same (subst (AreGiven (extents_of row links)) are held.given) in
          let begins = sym (ap (begins_well row) same) ∙ held.begins in
          let past : is_by next.first row.first ≡ false =
          not_true (is_by next.first row.first) (two (nat_lt 0 row.count && is_by link.first row.first) (not (is_by next.first row.first)) begins) in
          let long : length records ≡ between link.first next.first = given_length (extent_to next.first link) records given.0 in
          let within = given_within (extent_to next.first link) records given.0 in
          let gone = few_dead row.first link.first next.first (between link.first next.first) here there low
          (first_by row link (next ∷ rest) begins) past refl (omega (arith, long, within, few_records records)) in
          let is_dead : dead_by row.first links ≡ between link.first row.first = ap (dead_by row.first) same in
          let front = placed link.block 0 records in
          let behind = placed_all (extents_from (end_of row) next rest) (second ∷ reads) in
          let entries : index.entries ≡ drop (between link.first row.first) (front ++ behind) =
          entries_are ∙ (λ i. drop (is_dead i) (placed_all (extents_of row (same i)) (are i))) in
          let far = between link.first next.first - between link.first row.first in
          let rest_of : drop far index.entries ≡ behind =
          ap (drop far) entries ∙ drop-drop far (between link.first row.first) (front ++ behind)
          ∙ ap (λ (n : ℕ). drop n (front ++ behind)) (omega (arith, gone, long, placed_many link.block 0 records))
          ∙ drop-append_seam front behind in
          let sum : length (joined held.reads) ≡ length records + length (joined (second ∷ reads)) =
          ap (λ (l : List (List Meaning)). length (joined l)) are ∙ length-append records (joined (second ∷ reads)) in
          are_full blocks (end_of row) rule.least row.first used index.entries low next rest (second ∷ reads) far own_rest given.1
          (two (nat_le rule.least (pages_in records)) (are_filled rule.least (second ∷ reads)) (sym (ap (are_filled rule.least) are) ∙ kept.0))
          (held.used_is ∙ ap (λ (l : List (List Meaning)). pages_in (last_read l)) are)
          (omega (arith, here, there, low, gone)) (omega (arith, few_all, sum, gone, long)) rest_of
        where
          not_true : (b : Bool) → not b ≡ true → b ≡ false
          not_true true h = sym h
          not_true false h = refl

  used_few : used ≤ 256
  used_few = let most = last_within (extents_of row links) held.reads held.given in omega (arith, held.used_is, most)

  pub in_range : IsInRange rule now row links index used
  in_range = record {
    begins = held.begins;
    first = ap (λ (i : TimeIndex). i.first) (sym made.1);
    count = count;
    size = ap (λ (i : TimeIndex). i.size) (sym made.1);
    pages = pages;
    placed = placed_well;
    blocks = in_links;
    order = ordered;
    filled = filled;
    used_within = used_few;
  }
