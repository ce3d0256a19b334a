-- Where the entries of links lie, and how full their blocks are.
use Rattle.std.proofs.Common.{◌≡◌, ℕ, zero, suc, ◌+◌, ◌%◌, ◌<◌, ◌≤◌, nat_le, nat_lt, Bool, true, false, List, [], ◌∷◌, ◌++◌, All, length, drop, refl, sym, ◌∙◌, ap, subst, arith, length-append}
use Rattle.std.specs.Prelude.{if◌then◌else◌}
use Rattle.std.proofs.lemmas.Bool.{leb-true}
use Rattle.std.proofs.lemmas.Bool.Decides.{nat_tests}
use Rattle.std.proofs.lemmas.List.Elements.{All-head, All-tail}
use Rattle.space_packet.specs.Charge.{charge_of}
use Rattle.record_view.specs.Records.{Meaning, number_after}
use Rattle.record_view.specs.declared.link.Link.{Link}
use Rattle.store_directory.specs.Rows.{between, is_by}
use Rattle.time_index.specs.declared.entry.Entry.{Entry}
use Rattle.store_load.specs.Extents.{AreGiven, extent_to, extents_from, joined, last_of, pages_in}
use Rattle.store_load.specs.InRange.{AreAscending, AreInBlocks, block_for}
use Rattle.store_load.specs.Keeping.{IsLinkOf}
use Rattle.store_load.specs.Kept.{are_filled}
use Rattle.store_load.specs.Loaded.{placed, placed_all}
use Rattle.store_load.proofs.Counting.{low_by}
use Rattle.store_load.proofs.Eachs.{one, two}
use Rattle.store_load.proofs.Records.{few_records, given_length, given_within}

-- as many entries as records
pub placed_many : (block page : ℕ) (records : List Meaning) → length (placed block page records) ≡ length records
placed_many block page [] = refl
placed_many block page (m ∷ records) = ap suc (placed_many block (page + charge_of (length m.packet)) records)

-- a number from a link on, before or behind the next one

not_by : (first next i : ℕ) → first < 4294967296 → next < 4294967296 → i < between first next → between first next ≤ 256
    → is_by next ((first + i) % 4294967296) ≡ false
not_by first next i lf ln lt few = test (between next ((first + i) % 4294967296)) (omega arith)
  where
    test : (n : ℕ) → 2147483648 ≤ n → nat_lt n 2147483648 ≡ false
    test n h = grind (arith, nat_tests)

is_behind : (next i : ℕ) → next < 4294967296 → i < 2147483648 → is_by next ((next + i) % 4294967296) ≡ true
is_behind next i ln lt = test (between next ((next + i) % 4294967296)) (omega arith)
  where
    test : (n : ℕ) → n < 2147483648 → nat_lt n 2147483648 ≡ true
    test n h = grind (arith, nat_tests)

after : (f i : ℕ) → number_after ((f + i) % 4294967296) ≡ (f + suc i) % 4294967296
after f i = omega arith

-- the entries of a last link
in_last : (number : ℕ) (link : Link) (page : ℕ) (records : List Meaning) → AreInBlocks number link [] (placed link.block page records ++ [])
in_last number link page [] = tt
in_last number link page (m ∷ records) = (refl, in_last (number_after number) link (page + charge_of (length m.packet)) records)

-- those of a link in front of another one
in_front : (link next : Link) (links : List Link) (i page : ℕ) (records : List Meaning) (rest : List Entry)
    → link.first < 4294967296 → next.first < 4294967296 → between link.first next.first ≤ 256
    → i + length records ≡ between link.first next.first
    → AreInBlocks next.first link (next ∷ links) rest
    → AreInBlocks ((link.first + i) % 4294967296) link (next ∷ links) (placed link.block page records ++ rest)
in_front link next links i page [] rest ll ln few is behind =
    let there : next.first ≡ (link.first + i) % 4294967296 = omega (arith, ll, ln, is) in
    subst (λ (n : ℕ). AreInBlocks n link (next ∷ links) rest) there behind
in_front link next links i page (m ∷ records) rest ll ln few is behind = (
  ap (λ (b : Bool). if b then block_for ((link.first + i) % 4294967296) next links else link.block)
      (sym (not_by link.first next.first i ll ln (omega (arith, is)) few)),
  subst (λ (n : ℕ). AreInBlocks n link (next ∷ links) (placed link.block (page + charge_of (length m.packet)) records ++ rest)) (sym (after link.first i))
      (in_front link next links (suc i) (page + charge_of (length m.packet)) records rest ll ln few (omega (arith, is)) behind),
)

-- those of the links behind it
in_others : (link next : Link) (links : List Link) (i : ℕ) (entries : List Entry) → next.first < 4294967296
    → i + length entries ≤ 2147483648 → AreInBlocks ((next.first + i) % 4294967296) next links entries
    → AreInBlocks ((next.first + i) % 4294967296) link (next ∷ links) entries
in_others link next links i [] ln few are = tt
in_others link next links i (entry ∷ entries) ln few are = (
  are.0 ∙ ap (λ (b : Bool). if b then block_for ((next.first + i) % 4294967296) next links else link.block)
      (sym (is_behind next.first i ln (omega (arith, few)))),
  subst (λ (n : ℕ). AreInBlocks n link (next ∷ links) entries) (sym (after next.first i))
      (in_others link next links (suc i) entries ln (omega (arith, few))
      (subst (λ (n : ℕ). AreInBlocks n next links entries) (after next.first i) are.1)),
)

-- without the first entries
pub in_rest : (first i gone : ℕ) (link : Link) (links : List Link) (entries : List Entry) → AreInBlocks ((first + i) % 4294967296) link links entries
    → AreInBlocks ((first + i + gone) % 4294967296) link links (drop gone entries)
in_rest first i zero link links entries are =
    let same : first + i ≡ first + i + 0 = omega arith in
    subst (λ (n : ℕ). AreInBlocks (n % 4294967296) link links entries) same are
in_rest first i (suc gone) link links [] are = tt
in_rest first i (suc gone) link links (entry ∷ entries) are =
    let same : first + suc i + gone ≡ first + i + suc gone = omega arith in
    subst (λ (n : ℕ). AreInBlocks (n % 4294967296) link links (drop gone entries)) same
    (in_rest first (suc i) gone link links entries (subst (λ (n : ℕ). AreInBlocks n link links entries) (after first i) are.1))

pub from_start : (f : ℕ) → f < 4294967296 → (f + 0) % 4294967296 ≡ f
from_start f h = omega (arith, h)

module _ (blocks : ℕ) (end : ℕ) where
  -- as many entries as records of all extents
  pub all_many : (link : Link) (links : List Link) (reads : List (List Meaning)) → AreGiven (extents_from end link links) reads
      → length (placed_all (extents_from end link links) reads) ≡ length (joined reads)
  all_many link [] [] given = absurd given
  all_many link [] (records ∷ next ∷ reads) given = absurd given.1
  all_many link [] (records ∷ []) given =
      let some = length-append (placed link.block 0 records) [] in
      let long = length-append records [] in
      omega (arith, some, long, placed_many link.block 0 records)
  all_many link (next ∷ links) [] given = absurd given
  all_many link (next ∷ links) (records ∷ reads) given =
      let some = length-append (placed link.block 0 records) (placed_all (extents_from end next links) reads) in
      let long = length-append records (joined reads) in
      omega (arith, some, long, placed_many link.block 0 records, all_many next links reads given.1)

  -- each entry lies in the block of the link that holds its number
  pub in_blocks : (link : Link) (links : List Link) (reads : List (List Meaning)) → All (IsLinkOf blocks) (link ∷ links)
      → AreGiven (extents_from end link links) reads → length (joined reads) ≤ 2147483648
      → AreInBlocks link.first link links (placed_all (extents_from end link links) reads)
  in_blocks link [] [] own given few = absurd given
  in_blocks link [] (records ∷ next ∷ reads) own given few = absurd given.1
  in_blocks link [] (records ∷ []) own given few = in_last link.first link 0 records
  in_blocks link (next ∷ links) [] own given few = absurd given
  in_blocks link (next ∷ links) (records ∷ reads) own given few =
      let here = (All-head (IsLinkOf blocks) link (next ∷ links) own).first in
      let own_rest = All-tail (IsLinkOf blocks) link (next ∷ links) own in
      let there = (All-head (IsLinkOf blocks) next links own_rest).first in
      let rest = placed_all (extents_from end next links) reads in
      let long : length records ≡ between link.first next.first = given_length (extent_to next.first link) records given.0 in
      let fits = given_within (extent_to next.first link) records given.0 in
      let sum = length-append records (joined reads) in
      let many = all_many next links reads given.1 in
      let behind = in_blocks next links reads own_rest given.1 (omega (arith, sum, few)) in
      subst (λ (n : ℕ). AreInBlocks n link (next ∷ links) (placed link.block 0 records ++ rest)) (from_start link.first here)
      (in_front link next links 0 0 records rest here there (omega (arith, long, fits, few_records records)) (omega (arith, long))
      (subst (λ (n : ℕ). AreInBlocks n link (next ∷ links) rest) (from_start next.first there)
      (in_others link next links 0 rest there (omega (arith, many, sum, few))
      (subst (λ (n : ℕ). AreInBlocks n next links rest) (sym (from_start next.first there)) behind))))

  -- the links' first numbers rise
  pub in_order : (least : ℕ) (link : Link) (links : List Link) (reads : List (List Meaning)) → All (IsLinkOf blocks) (link ∷ links)
      → AreGiven (extents_from end link links) reads → are_filled least reads ≡ true → 1 ≤ least → end < 4294967296
      → AreAscending link links × (is_by (last_of link links).first end ≡ true)
  in_order least link [] [] own given filled some lt = absurd given
  in_order least link [] (records ∷ next ∷ reads) own given filled some lt = absurd given.1
  in_order least link [] (records ∷ []) own given filled some lt =
      let long : length records ≡ between link.first end = given_length (extent_to end link) records given.0 in
      let fits = given_within (extent_to end link) records given.0 in
      (tt, low_by link.first end (omega (arith, long, fits, few_records records)))
  in_order least link (next ∷ links) [] own given filled some lt = absurd given
  in_order least link (next ∷ []) (records ∷ []) own given filled some lt = absurd given.1
  in_order least link (next ∷ third ∷ links) (records ∷ []) own given filled some lt = absurd given.1
  in_order least link (next ∷ links) (records ∷ others ∷ reads) own given filled some lt =
      let here = (All-head (IsLinkOf blocks) link (next ∷ links) own).first in
      let own_rest = All-tail (IsLinkOf blocks) link (next ∷ links) own in
      let there = (All-head (IsLinkOf blocks) next links own_rest).first in
      let long : length records ≡ between link.first next.first = given_length (extent_to next.first link) records given.0 in
      let fits = given_within (extent_to next.first link) records given.0 in
      let full : least ≤ pages_in records = leb-true least (pages_in records) (one (nat_le least (pages_in records)) (are_filled least (others ∷ reads)) filled) in
      let (rest, last) = in_order least next links (others ∷ reads) own_rest given.1
      (two (nat_le least (pages_in records)) (are_filled least (others ∷ reads)) filled) some lt in
      ((rises link.first next.first here there (some_record records (omega (arith, full, some)) long) (omega (arith, long, fits, few_records records)), rest), last)
    where
      some_record : (records : List Meaning) → 1 ≤ pages_in records → {n : ℕ} → length records ≡ n → 1 ≤ n
      some_record [] h is = absurd (omega (arith, h))
      some_record (m ∷ records) h is = omega (arith, is)

      rises : (a b : ℕ) → a < 4294967296 → b < 4294967296 → 1 ≤ between a b → between a b ≤ 256 → is_by b a ≡ false
      rises a b la lb low few = test (between b a) (omega (arith, la, lb, low, few))
        where
          test : (n : ℕ) → 2147483648 ≤ n → nat_lt n 2147483648 ≡ false
          test n h = grind (arith, nat_tests)
