-- A row counts the records of its store.
use Rattle.std.proofs.Common.{◌≡◌, ℕ, suc, ◌+◌, ◌-◌, ◌*◌, ◌%◌, ◌<◌, ◌≤◌, ◌&&◌, nat_le, nat_lt, true, not, List, [], ◌∷◌, All, length, Some, refl, sym, ◌∙◌, ap, subst, arith, length-append, length-drop, eqb-true}
use Rattle.std.specs.Prelude.{⊤}
use Rattle.std.proofs.lemmas.Bool.{and_parts}
use Rattle.std.proofs.lemmas.Bool.Decides.{nat_tests}
use Rattle.std.proofs.lemmas.List.Elements.{All-head, All-tail}
use Rattle.std.proofs.lemmas.Option.{same_Some}
use Rattle.board.specs.Flash.{IsContent}
use Rattle.record_view.specs.Records.{Meaning}
use Rattle.record_view.specs.declared.link.Link.{Link}
use Rattle.store_directory.specs.Options.{◌>>=◌}
use Rattle.store_directory.specs.Rows.{between, is_by}
use Rattle.store_directory.specs.declared.row.Row.{Row}
use Rattle.store_directory.proofs.Steps.{some_then}
use Rattle.store_load.specs.Each.{each}
use Rattle.store_load.specs.Extents.{AreGiven, end_of, extent_to, extents_from, extents_of, joined, pages_in, read_extent}
use Rattle.store_load.specs.Keeping.{IsLinkOf, Keeps}
use Rattle.store_load.specs.Kept.{are_filled, are_short, begins_well, dead_by, kept_by, kept_of, live_of, may_keep, rise_to}
use Rattle.store_load.specs.declared.rule.Rule.{Rule}
use Rattle.store_load.proofs.Eachs.{each_cons, given_then, one, two}
use Rattle.store_load.proofs.Records.{few_records, given_length, given_within, read_given}

pub sum_between : (a b c : ℕ) → a < 4294967296 → b < 4294967296 → c < 4294967296
    → between a b + between b c < 4294967296 → between a c ≡ between a b + between b c
sum_between a b c la lb lc lt = omega arith

pub by_low : (x y : ℕ) → is_by x y ≡ true → between x y < 2147483648
by_low x y h = test (between x y) h
  where
    test : (n : ℕ) → nat_lt n 2147483648 ≡ true → n < 2147483648
    test n h = grind (arith, nat_tests)

pub low_by : (x y : ℕ) → between x y < 2147483648 → is_by x y ≡ true
low_by x y h = test (between x y) h
  where
    test : (n : ℕ) → n < 2147483648 → nat_lt n 2147483648 ≡ true
    test n h = grind (arith, nat_tests)

pub ends_at : (a f n : ℕ) → a < 4294967296 → f < 4294967296 → n ≤ 100000
    → between a f < 2147483648 → between a ((f + n) % 4294967296) ≡ between a f + n
ends_at a f n la lf ln lt = omega arith

-- as many extents as links
pub extents_length : (end : ℕ) (link : Link) (links : List Link)
    → length (extents_from end link links) ≡ suc (length links)
extents_length end link [] = refl
extents_length end link (next ∷ links) = ap (λ (n : ℕ). suc n) (extents_length end next links)

-- the first record is in the first block
pub first_by : (row : Row) (link : Link) (links : List Link)
    → begins_well row (link ∷ links) ≡ true → is_by link.first row.first ≡ true
first_by row link [] h = two (nat_lt 0 row.count) (is_by link.first row.first) h
first_by row link (next ∷ links) h =
    two (nat_lt 0 row.count) (is_by link.first row.first)
    (one (nat_lt 0 row.count && is_by link.first row.first) (not (is_by next.first row.first)) h)

-- what the blocks of an image spell was given
pub reads_given : (blocks : ℕ) (image : ℕ → List ℕ) → IsContent blocks image → (end : ℕ) (link : Link) (links : List Link)
    (reads : List (List Meaning)) → All (IsLinkOf blocks) (link ∷ links)
    → each (read_extent image) (extents_from end link links) ≡ Some reads → AreGiven (extents_from end link links) reads
reads_given blocks image content end link [] reads own h =
    let (records, rest, read, none, whole) = each_cons (read_extent image) (extent_to end link) [] reads h in
    let here = All-head (IsLinkOf blocks) link [] own in
    subst (AreGiven (extent_to end link ∷ [])) (ap (λ (l : List (List Meaning)). records ∷ l) (same_Some [] rest none) ∙ whole)
    (read_given blocks image content (extent_to end link) records here.block read, tt)
reads_given blocks image content end link (next ∷ links) reads own h =
    let (records, rest, read, are, whole) = each_cons (read_extent image) (extent_to next.first link) (extents_from end next links) reads h in
    let here = All-head (IsLinkOf blocks) link (next ∷ links) own in
    subst (AreGiven (extent_to next.first link ∷ extents_from end next links)) whole (
      read_given blocks image content (extent_to next.first link) records here.block read,
      reads_given blocks image content end next links rest (All-tail (IsLinkOf blocks) link (next ∷ links) own) are,
    )

-- no more than the pages of their blocks
extents_few : (end : ℕ) (link : Link) (links : List Link) (reads : List (List Meaning))
    → AreGiven (extents_from end link links) reads → length (joined reads) ≤ 256 * suc (length links)
extents_few end link [] [] given = absurd given
extents_few end link [] (records ∷ next ∷ reads) given = absurd given.1
extents_few end link [] (records ∷ []) given =
    let within = given_within (extent_to end link) records given.0 in
    let alone : length (joined (records ∷ [])) ≡ length records + 0 = length-append records [] in
    omega (arith, within, few_records records, alone)
extents_few end link (next ∷ links) [] given = absurd given
extents_few end link (next ∷ links) (records ∷ rest) given =
    let within = given_within (extent_to next.first link) records given.0 in
    let behind = extents_few end next links rest given.1 in
    let sum : length (joined (records ∷ rest)) ≡ length records + length (joined rest) = length-append records (joined rest) in
    omega (arith, within, few_records records, behind, sum)

pub all_few : (row : Row) (links : List Link) (reads : List (List Meaning)) → AreGiven (extents_of row links) reads
    → length (joined reads) ≤ 256 * length links
all_few row [] [] given = omega arith
all_few row [] (records ∷ reads) given = absurd given
all_few row (link ∷ links) reads given = extents_few (end_of row) link links reads given

module _ (blocks : ℕ) where
  -- the records of extents in a row
  extents_count : (end : ℕ) (link : Link) (links : List Link) (reads : List (List Meaning))
      → All (IsLinkOf blocks) (link ∷ links) → end < 4294967296 → AreGiven (extents_from end link links) reads
      → length (joined reads) < 4294967296 → between link.first end ≡ length (joined reads)
  extents_count end link [] [] own lt given few = absurd given
  extents_count end link [] (records ∷ next ∷ reads) own lt given few = absurd given.1
  extents_count end link [] (records ∷ []) own lt given few =
      let long : length records ≡ between link.first end = given_length (extent_to end link) records given.0 in
      let alone : length (joined (records ∷ [])) ≡ length records + 0 = length-append records [] in
      sym long ∙ omega (arith, alone)
  extents_count end link (next ∷ links) [] own lt given few = absurd given
  extents_count end link (next ∷ links) (records ∷ rest) own lt given few =
      let long : length records ≡ between link.first next.first = given_length (extent_to next.first link) records given.0 in
      let sum : length (joined (records ∷ rest)) ≡ length records + length (joined rest) = length-append records (joined rest) in
      let here = All-head (IsLinkOf blocks) link (next ∷ links) own in
      let behind_it = All-tail (IsLinkOf blocks) link (next ∷ links) own in
      let there = All-head (IsLinkOf blocks) next links behind_it in
      let behind = extents_count end next links rest behind_it lt given.1 (omega (arith, sum, few)) in
      sum_between link.first next.first end here.first there.first lt (omega (arith, long, behind, sum, few))
      ∙ omega (arith, long, behind, sum)

  -- all that the extents of a store's links have
  pub all_counted : (row : Row) (links : List Link) (reads : List (List Meaning)) → begins_well row links ≡ true
      → All (IsLinkOf blocks) links → length links ≤ 512 → row.first < 4294967296 → row.count ≤ 100000
      → AreGiven (extents_of row links) reads → length (joined reads) ≡ dead_by row.first links + row.count
  all_counted row [] [] begins own few low most given = let none = eqb-true row.count 0 begins in omega (arith, none)
  all_counted row [] (records ∷ reads) begins own few low most given = absurd given
  all_counted row (link ∷ links) reads begins own few low most given =
      let some = extents_few (end_of row) link links reads given in
      let total = extents_count (end_of row) link links reads own (omega arith) given (omega (arith, some, few)) in
      let here = All-head (IsLinkOf blocks) link links own in
      let ends = ends_at link.first row.first row.count here.first low most (by_low link.first row.first (first_by row link links begins)) in
      sym total ∙ ends

-- what is known of the records that a store keeps
pub record KeptAre (rule : Rule) (image : ℕ → List ℕ) (now : ℕ) (row : Row) (links : List Link)
    (records : List Meaning) : Type 0 where
  pub begins : begins_well row links ≡ true
  pub reads : List (List Meaning)
  pub read : each (read_extent image) (extents_of row links) ≡ Some reads
  pub live : live_of row links reads ≡ records
  pub filled : are_filled rule.least reads ≡ true
  pub short : are_short rule.largest (joined reads) ≡ true
  pub rise : rise_to now 0 records ≡ true
  pub fits : nat_le (pages_in records) row.size ≡ true

pub kept_parts : (rule : Rule) (image : ℕ → List ℕ) (now : ℕ) (row : Row) (links : List Link)
    (records : List Meaning) → kept_of rule image now row links ≡ Some records
    → KeptAre rule image now row links records
unfolding kept_of
kept_parts rule image now row links records is =
    let begun = given_then (begins_well row links)
    (λ (_ : ⊤). each (read_extent image) (extents_of row links) >>= λ (reads : List (List Meaning)). kept_by rule now row links reads) records is in
    let (reads, read, kept) = some_then (each (read_extent image) (extents_of row links)) (kept_by rule now row links) records begun.1 in
    let live = live_of row links reads in
    let parts = given_then (may_keep rule now row.size reads live) (λ (_ : ⊤). Some live) records kept in
    let same : live ≡ records = same_Some live records parts.1 in
    let last = and_parts (are_filled rule.least reads && are_short rule.largest (joined reads) && rise_to now 0 live) (nat_le (pages_in live) row.size) parts.0 in
    let middle = and_parts (are_filled rule.least reads && are_short rule.largest (joined reads)) (rise_to now 0 live) last.0 in
    let front = and_parts (are_filled rule.least reads) (are_short rule.largest (joined reads)) middle.0 in
    record {
      begins = begun.0;
      reads = reads;
      read = read;
      live = same;
      filled = front.0;
      short = front.1;
      rise = subst (λ (l : List Meaning). rise_to now 0 l ≡ true) same middle.1;
      fits = subst (λ (l : List Meaning). nat_le (pages_in l) row.size ≡ true) same last.1;
    }

pub parts_kept : (rule : Rule) (image : ℕ → List ℕ) (now : ℕ) (row : Row) (links : List Link)
    (records : List Meaning) → KeptAre rule image now row links records
    → kept_of rule image now row links ≡ Some records
unfolding kept_of
parts_kept rule image now row links records are =
    let rise : rise_to now 0 (live_of row links are.reads) ≡ true =
    subst (λ (l : List Meaning). rise_to now 0 l ≡ true) (sym are.live) are.rise in
    let fits : nat_le (pages_in (live_of row links are.reads)) row.size ≡ true =
    subst (λ (l : List Meaning). nat_le (pages_in l) row.size ≡ true) (sym are.live) are.fits in
    rw (are.begins) (rw (are.read) (rw (are.filled, are.short, rise, fits) (ap Some are.live)))

-- a store that keeps records
module _ (rule : Rule) (blocks : ℕ) (image : ℕ → List ℕ) (now : ℕ) (row : Row) (links : List Link)
    (records : List Meaning) (keeps : Keeps rule blocks image now row links records) where
  abbrev are : KeptAre rule image now row links records
  are = kept_parts rule image now row links records keeps.kept

  given_all : AreGiven (extents_of row links) are.reads
  given_all = by_links links are.reads keeps.each_link are.read
    where
      by_links : (others : List Link) (reads : List (List Meaning)) → All (IsLinkOf blocks) others
          → each (read_extent image) (extents_of row others) ≡ Some reads → AreGiven (extents_of row others) reads
      by_links [] reads own read = subst (AreGiven []) (same_Some [] reads read) tt
      by_links (link ∷ rest) reads own read = reads_given blocks image keeps.pages (end_of row) link rest reads own read

  -- all that its extents spell
  pub counted : length (joined are.reads) ≡ dead_by row.first links + row.count
  counted = all_counted blocks row links are.reads are.begins keeps.each_link keeps.few keeps.first keeps.count given_all

  -- a row counts the records
  pub counts_records : length records ≡ row.count
  counts_records =
      let cut : length (live_of row links are.reads) ≡ length (joined are.reads) - dead_by row.first links =
      length-drop (dead_by row.first links) (joined are.reads) in
      sym (ap length are.live) ∙ omega (arith, cut, counted)

  -- as far as its records go no number comes round
  pub small_enough : (gone far : ℕ) → gone ≤ row.count → far ≡ dead_by row.first links + gone → far < 2147483648
  small_enough gone far few is =
      let most = all_few row links are.reads given_all in
      omega (arith, most, counted, keeps.few, few, is)
