-- The first row that passes, by its place, and what stands there.
use Rattle.std.proofs.Common.{◌≡◌, ◌<◌, ◌≤◌, ℕ, zero, suc, ◌+◌, ◌&&◌, Bool, true, false, List, [], ◌∷◌, Option, Some, None, length, refl, sym, ◌∙◌, ap, subst, arith}
use Rattle.std.proofs.lemmas.Bool.{and_parts}
use Rattle.std.proofs.lemmas.Bool.Decides.{nat_tests}
use Rattle.std.proofs.lemmas.List.Elements.{All-head, All-tail}
use Rattle.std.proofs.lemmas.Option.{none-some, same_Some}
use Rattle.std.specs.List.{All}
use Rattle.std.specs.Option.{option_or}
use Rattle.std.specs.Prelude.{IfSome, is_some, nat_le, nat_lt, slice_get, if◌then◌else◌}
use Rattle.pst_model.specs.Rules.{range_next}
use Rattle.store_directory.specs.Directory.{IsListed, Listed}
use Rattle.store_directory.specs.Rows.{is_lawful_row, is_range}
use Rattle.store_directory.specs.declared.row.Row.{Row}
use Rattle.retrieval.specs.declared.pick.Pick.{Pick}
use Rattle.retrieval.specs.Grants.{IsHeld, IsRowAt}
use Rattle.retrieval.specs.Picks.{IsPickOf, first_pick, has_ahead, has_range, open_pick, pick_of, range_pick}

-- the row at a place is the first one that passes
abbrev pub IsFirstRow : (Row → Bool) → List Listed → ℕ → Type 0
IsFirstRow test [] at = ⊥
IsFirstRow test (s ∷ stores) zero = test s.row ≡ true
IsFirstRow test (s ∷ stores) (suc at) = (test s.row ≡ false) × IsFirstRow test stores at

-- a pick is that of the first row that passes, where the first place of all is this one
pub record IsOfFirst (test : Row → Bool) (pick : (at : ℕ) → Row → Pick) (from : ℕ) (stores : List Listed) (found : Pick) : Type 0 where
  pub at : ℕ
  pub first : IsFirstRow test stores at
  pub listed : Listed
  pub there : slice_get stores at ≡ Some listed
  pub passes : test listed.row ≡ true
  pub is : pick (from + at) listed.row ≡ found

pub of_first : (test : Row → Bool) (pick : (at : ℕ) → Row → Pick) (from : ℕ) (stores : List Listed) (found : Pick) → first_pick test pick from stores ≡ Some found → IsOfFirst test pick from stores found
of_first test pick from [] found is = absurd (none-some found is)
of_first test pick from (s ∷ stores) found is = by (of_first test pick (from + 1) stores found) (test s.row) refl is
  where
    later : test s.row ≡ false → IsOfFirst test pick (from + 1) stores found → IsOfFirst test pick from (s ∷ stores) found
    later fails rest =
        let next : from + 1 + rest.at ≡ from + suc rest.at = omega arith in
        record {
          at = suc rest.at;
          first = (fails, rest.first);
          listed = rest.listed;
          there = rest.there;
          passes = rest.passes;
          is = ap (λ (k : ℕ). pick k rest.listed.row) (sym next) ∙ rest.is;
        }

    by : (first_pick test pick (from + 1) stores ≡ Some found → IsOfFirst test pick (from + 1) stores found) → (passes : Bool) → test s.row ≡ passes → (if passes then Some (pick from s.row) else first_pick test pick (from + 1) stores) ≡ Some found → IsOfFirst test pick from (s ∷ stores) found
    by deeper true passes is =
        let here : from + 0 ≡ from = omega arith in
        record {
          at = 0;
          first = passes;
          listed = s;
          there = refl;
          passes = passes;
          is = ap (λ (k : ℕ). pick k s.row) here ∙ same_Some (pick from s.row) found is;
        }
    by deeper false fails is = later fails (deeper is)

-- what is kept of each store that stands at a place
listed_there : (stores : List Listed) (at : ℕ) (s : Listed) → All IsListed stores → slice_get stores at ≡ Some s → IsListed s
listed_there [] at s all there = absurd (none-some s there)
listed_there (x ∷ stores) zero s all there = subst IsListed (same_Some x s there) (All-head IsListed x stores all)
listed_there (x ∷ stores) (suc at) s all there = listed_there stores at s (All-tail IsListed x stores all) there

-- the range of a lawful row has a next position, which is that of one of its packets
pub row_range : (row : Row) → is_lawful_row row ≡ true → is_range row.count row.range ≡ true
row_range row lawful =
    (and_parts (nat_le 1 row.size && nat_le row.size 100000 && nat_le 1 row.channel && nat_le row.channel 7 && nat_le row.count row.size && nat_le row.behind row.count) (is_range row.count row.range) lawful).1

pub range_ends : (count next end : ℕ) → is_range count (Some (next, end)) ≡ true → (next < end) × (end ≤ count)
range_ends count next end is = (grind (arith, nat_tests), grind (arith, nat_tests))

range_held : (at : ℕ) (row : Row) → is_lawful_row row ≡ true → has_range row ≡ true
    → IsPickOf row (range_pick at row) × (range_next row.range < row.count)
range_held at row lawful has = by row.range refl (row_range row lawful) has
  where
    by : (range : Option (ℕ × ℕ)) → row.range ≡ range → is_range row.count range ≡ true → is_some range ≡ true
        → IsPickOf row (range_pick at row) × (range_next row.range < row.count)
    by None is lawful has = absurd cc
    by (Some (next, end)) is lawful has =
        let ends = range_ends row.count next end lawful in
        let first : next ≡ range_next row.range = ap range_next (sym is) in
        let within : range_next row.range < end = omega (arith, ends.0, first) in
        ((end, is ∙ ap (λ (n : ℕ). Some (n, end)) first, within), omega (arith, within, ends.1))

open_held : (at : ℕ) (row : Row) → has_ahead row ≡ true → IsPickOf row (open_pick at row) × (row.behind < row.count)
open_held at row has =
    let ahead = below row.behind row.count (and_parts row.open_on (nat_lt row.behind row.count) has).1 in
    ((refl, ahead), ahead)
  where
    below : (behind count : ℕ) → nat_lt behind count ≡ true → behind < count
    below behind count is = grind (arith, nat_tests)

-- one of two kinds of picks
of_either : (stores : List Listed) (P : Pick → Type 0) → ((pick : Pick) → first_pick has_range range_pick 0 stores ≡ Some pick → P pick)
    → ((pick : Pick) → first_pick has_ahead open_pick 0 stores ≡ Some pick → P pick) → (pick : Pick) → pick_of stores ≡ Some pick → P pick
of_either stores P by_range by_open pick picked = by (first_pick has_range range_pick 0 stores) refl picked
  where
    by : (found : Option Pick) → first_pick has_range range_pick 0 stores ≡ found → option_or found (first_pick has_ahead open_pick 0 stores) ≡ Some pick → P pick
    by (Some other) is same = by_range pick (is ∙ same)
    by None is same = by_open pick same

-- the place of a pick among the stores
place_kept : (pick : (at : ℕ) → Row → Pick) → ((at : ℕ) (row : Row) → (pick at row).at ≡ at) → (test : Row → Bool) (stores : List Listed) (found : Pick)
    → (first : IsOfFirst test pick 0 stores found) → slice_get stores found.at ≡ Some first.listed
place_kept pick place test stores found first =
    let from : 0 + first.at ≡ first.at = omega arith in
    let at : first.at ≡ found.at = sym from ∙ sym (place (0 + first.at) first.listed.row) ∙ ap (λ (p : Pick). p.at) first.is in
    ap (slice_get stores) (sym at) ∙ first.there

-- a pick has a store
pub picked_there : (stores : List Listed) (pick : Pick) → pick_of stores ≡ Some pick → (s : Listed) × (slice_get stores pick.at ≡ Some s)
picked_there stores =
    of_either stores (λ pick. (s : Listed) × (slice_get stores pick.at ≡ Some s))
    (λ pick is.
    let first = of_first has_range range_pick 0 stores pick is in
    (first.listed, place_kept range_pick (λ at row. refl) has_range stores pick first))
    (λ pick is.
    let first = of_first has_ahead open_pick 0 stores pick is in
    (first.listed, place_kept open_pick (λ at row. refl) has_ahead stores pick first))

pub row_there : (stores : List Listed) (at : ℕ) (row : Row) (s : Listed) → IsRowAt stores at row → slice_get stores at ≡ Some s → row ≡ s.row
row_there stores at row s here there = subst (λ (found : Option Listed). IfSome found (λ x. row ≡ x.row)) there here

-- and is the next packet of it
module _ (stores : List Listed) (all : All IsListed stores) where
  held_there : (pick : Pick) (s : Listed) → slice_get stores pick.at ≡ Some s → IsPickOf s.row pick × (pick.position < s.row.count) → IsHeld stores pick
  held_there pick s there held = rw there held

  pub picked_held : (pick : Pick) → pick_of stores ≡ Some pick → IsHeld stores pick
  picked_held =
      of_either stores (IsHeld stores)
      (λ pick is.
      let first = of_first has_range range_pick 0 stores pick is in
      let there = place_kept range_pick (λ at row. refl) has_range stores pick first in
      let lawful = (listed_there stores pick.at first.listed all there).lawful in
      held_there pick first.listed there
      (subst (λ (p : Pick). IsPickOf first.listed.row p × (p.position < first.listed.row.count)) first.is (range_held (0 + first.at) first.listed.row lawful first.passes)))
      (λ pick is.
      let first = of_first has_ahead open_pick 0 stores pick is in
      held_there pick first.listed (place_kept open_pick (λ at row. refl) has_ahead stores pick first)
      (subst (λ (p : Pick). IsPickOf first.listed.row p × (p.position < first.listed.row.count)) first.is (open_held (0 + first.at) first.listed.row first.passes)))

  pub result_held : (found : Option Pick) → found ≡ pick_of stores → IfSome found (IsHeld stores)
  result_held None is = tt
  result_held (Some pick) is = picked_held pick (sym is)

pub result_within : (stores : List Listed) (found : Option Pick) → found ≡ pick_of stores → IfSome found (λ pick. pick.at < length stores)
result_within stores None is = tt
result_within stores (Some pick) is = let there = picked_there stores pick (sym is) in within stores pick.at there.0 there.1
  where
    within : (stores : List Listed) (at : ℕ) (s : Listed) → slice_get stores at ≡ Some s → at < length stores
    within [] at s there = absurd (none-some s there)
    within (x ∷ stores) zero s there = omega arith
    within (x ∷ stores) (suc at) s there = omega (arith, within stores at s there)
