-- How full the blocks of links are by the entries of an index.
use Rattle.std.proofs.Common.{◌≡◌, ℕ, ◌+◌, ◌<◌, ◌≤◌, nat_le, nat_lt, Bool, true, false, List, [], ◌∷◌, ◌++◌, All, length, take, drop, refl, sym, ◌∙◌, ap, arith, length-append, append-nil}
use Rattle.std.proofs.Math.Seq.{drop-append_seam, take-append_seam}
use Rattle.std.proofs.lemmas.Bool.{leb-true}
use Rattle.std.proofs.lemmas.Bool.Decides.{nat_tests}
use Rattle.std.proofs.lemmas.List.{drop-drop}
use Rattle.std.proofs.lemmas.List.Elements.{All-head, All-tail}
use Rattle.record_view.specs.Records.{Meaning}
use Rattle.record_view.specs.declared.link.Link.{Link}
use Rattle.store_directory.specs.Rows.{between, is_by}
use Rattle.time_index.specs.TimeIndex.{pages_of}
use Rattle.time_index.specs.declared.entry.Entry.{Entry}
use Rattle.store_load.specs.Extents.{AreGiven, extent_to, extents_from, joined, last_read, pages_in}
use Rattle.store_load.specs.InRange.{AreFull, entries_between}
use Rattle.store_load.specs.Keeping.{IsLinkOf}
use Rattle.store_load.specs.Kept.{are_filled}
use Rattle.store_load.specs.Loaded.{placed, placed_all}
use Rattle.store_load.proofs.Counting.{sum_between}
use Rattle.store_load.proofs.Eachs.{one, two}
use Rattle.store_load.proofs.InRange.{placed_many}
use Rattle.store_load.proofs.Records.{given_length}
use Rattle.store_load.proofs.Takings.{pages_match, placed_lengths}

pub placed_pages : (block : ℕ) (records : List Meaning) → pages_of (placed block 0 records) ≡ pages_in records
placed_pages block records = pages_match 0 (placed block 0 records) records (placed_lengths block 0 records)

-- the entries from some place on are those of these links
module _ (blocks end least number used : ℕ) (entries : List Entry) (low : number < 4294967296) where
  pub are_full : (link : Link) (links : List Link) (reads : List (List Meaning)) (far : ℕ) → All (IsLinkOf blocks) (link ∷ links)
      → AreGiven (extents_from end link links) reads → are_filled least reads ≡ true → used ≡ pages_in (last_read reads)
      → between number link.first ≡ far → far + length (joined reads) < 4294967296
      → drop far entries ≡ placed_all (extents_from end link links) reads
      → AreFull least number used link links entries
  are_full link [] [] far own given filled uses away few rest = absurd given
  are_full link [] (records ∷ next ∷ reads) far own given filled uses away few rest = absurd given.1
  are_full link [] (records ∷ []) far own given filled uses away few rest =
      uses ∙ sym (ap (λ (n : ℕ). pages_of (drop n entries)) away ∙ ap pages_of (rest ∙ append-nil (placed link.block 0 records)) ∙ placed_pages link.block records)
  are_full link (next ∷ links) [] far own given filled uses away few rest = absurd given
  are_full link (next ∷ []) (records ∷ []) far own given filled uses away few rest = absurd given.1
  are_full link (next ∷ third ∷ links) (records ∷ []) far own given filled uses away few rest = absurd given.1
  are_full link (next ∷ links) (records ∷ others ∷ reads) far own given filled uses away few rest =
      let here = (All-head (IsLinkOf blocks) link (next ∷ links) own).first in
      let own_rest = All-tail (IsLinkOf blocks) link (next ∷ links) own in
      let there = (All-head (IsLinkOf blocks) next links own_rest).first in
      let long : length records ≡ between link.first next.first = given_length (extent_to next.first link) records given.0 in
      let entries_here = placed link.block 0 records in
      let behind = placed_all (extents_from end next links) (others ∷ reads) in
      let many : between link.first next.first ≡ length entries_here = sym long ∙ sym (placed_many link.block 0 records) in
      let full : least ≤ pages_in records = leb-true least (pages_in records) (one (nat_le least (pages_in records)) (are_filled least (others ∷ reads)) filled) in
      let sum = length-append records (joined (others ∷ reads)) in
      let cut : entries_between number link.first next.first entries ≡ entries_here =
      ap (λ (n : ℕ). take (between link.first next.first) (drop n entries)) away
      ∙ ap (take (between link.first next.first)) rest
      ∙ ap (λ (n : ℕ). take n (entries_here ++ behind)) many
      ∙ take-append_seam entries_here behind in
      let cost : pages_of (entries_between number link.first next.first entries) ≡ pages_in records = ap pages_of cut ∙ placed_pages link.block records in
      let further : between number next.first ≡ far + length records =
      sum_between number link.first next.first low here there (omega (arith, away, long, few, sum)) ∙ omega (arith, away, long) in (
        omega (arith, full, cost),
        are_full next links (others ∷ reads) (far + length records) own_rest given.1
            (two (nat_le least (pages_in records)) (are_filled least (others ∷ reads)) filled) uses further (omega (arith, few, sum))
            (sym (drop-drop (length records) far entries) ∙ ap (drop (length records)) rest
            ∙ ap (λ (n : ℕ). drop n (entries_here ++ behind)) (sym (placed_many link.block 0 records))
            ∙ drop-append_seam entries_here behind),
      )

-- the first record is in the first block
pub few_dead : (first link next count : ℕ) → link < 4294967296 → next < 4294967296 → first < 4294967296
    → is_by link first ≡ true → is_by next first ≡ false → between link next ≡ count → count ≤ 256
    → between link first < count
few_dead first link next count ll ln lf by past is few = pick (nat_lt (between link first) count) refl
  where
    test : (a n : ℕ) → nat_lt a n ≡ true → a < n
    test a n h = grind (arith, nat_tests)

    not_less : (a n : ℕ) → nat_lt a n ≡ false → n ≤ a
    not_less a n h = grind (arith, nat_tests)

    pick : (b : Bool) → nat_lt (between link first) count ≡ b → between link first < count
    pick true h = test (between link first) count h
    pick false h =
        let far = not_less (between link first) count h in
        let near = test (between link first) 2147483648 by in
        let behind = not_less (between next first) 2147483648 past in
        absurd (no_such far near behind)
      where
        no_such : count ≤ between link first → between link first < 2147483648 → 2147483648 ≤ between next first → ⊥
        no_such far near behind = absurd (omega (arith, far, near, behind, is, few, ll, ln, lf))
