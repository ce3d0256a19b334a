-- How far the links of a store begin behind its first record, and which of them holds a number.
use Rattle.std.proofs.Common.{◌≡◌, ℕ, zero, suc, ◌+◌, ◌%◌, ◌<◌, ◌≤◌, nat_lt, Bool, true, false}
use Rattle.std.proofs.Common.{List, [], ◌∷◌, All, length, take, drop, Some, refl, sym, ◌∙◌, ap, subst}
use Rattle.std.proofs.Common.{arith}
use Rattle.std.specs.Prelude.{if◌then◌else◌}
use Rattle.std.proofs.lemmas.Bool.Decides.{nat_tests}
use Rattle.std.proofs.lemmas.List.Elements.{All-cons, All-head, All-nil, All-tail}
use Rattle.std.proofs.lemmas.Option.{same_Some}
use Rattle.record_view.specs.declared.link.Link.{Link}
use Rattle.store_directory.specs.Directory.{swap_last}
use Rattle.store_directory.specs.Rows.{between, is_by}
use Rattle.store_directory.proofs.Steps.{some_then}
use Rattle.store_load.specs.Extents.{last_of}
use Rattle.store_load.specs.InRange.{AreAscending, AreFull, block_for}
use Rattle.store_load.proofs.Counting.{by_low}
use Rattle.time_index.specs.TimeIndex.{pages_of}
use Rattle.time_index.specs.declared.entry.Entry.{Entry}

abbrev pub IsLow : Link → Type 0
IsLow link = link.first < 4294967296

abbrev pub IsUpTo : (first most : ℕ) → Link → Type 0
IsUpTo first most link = between first link.first ≤ most

pub by_high : (x y : ℕ) → is_by x y ≡ false → 2147483648 ≤ between x y
by_high x y h = test (between x y) h
  where
    test : (n : ℕ) → nat_lt n 2147483648 ≡ false → 2147483648 ≤ n
    test n h = grind (arith, nat_tests)

pub high_by : (x y : ℕ) → 2147483648 ≤ between x y → is_by x y ≡ false
high_by x y h = test (between x y) h
  where
    test : (n : ℕ) → 2147483648 ≤ n → nat_lt n 2147483648 ≡ false
    test n h = grind (arith, nat_tests)

-- entries that take a page are not behind all of them
some_there : (most from : ℕ) (entries : List Entry) → 1 ≤ pages_of (take most (drop from entries))
    → from < length entries
some_there zero from entries some = absurd (omega (arith, some))
some_there (suc most) zero [] some = absurd (omega (arith, some))
some_there (suc most) zero (e ∷ entries) some = omega arith
some_there (suc most) (suc from) [] some = absurd (omega (arith, some))
some_there (suc most) (suc from) (e ∷ entries) some =
    let rest = some_there (suc most) from entries some in omega (arith, rest)

-- no link begins behind the last one, and that one begins behind no record
module _ (first count least used : ℕ) (entries : List Entry) (low : first < 4294967296)
    (few : count ≤ 100000) (some : 1 ≤ least) (many : length entries ≡ count) where
  last_up : (link : ℕ) → link < 4294967296 → between first link ≤ count + 2147483648
      → between link ((first + count) % 4294967296) < 2147483648 → between first link ≤ count
  last_up link own bound by = omega (arith, low, few, own, bound, by)

  next_up : (link next : ℕ) → link < 4294967296 → next < 4294967296 → between first link < count
      → 2147483648 ≤ between next link → between first next ≤ count + 2147483648
  next_up link next own there bound past = omega (arith, low, few, own, there, bound, past)

  next_more : (link next : ℕ) → link < 4294967296 → next < 4294967296 → between first link < count
      → 2147483648 ≤ between next link → between first link ≤ between first next
  next_more link next own there bound past = omega (arith, low, few, own, there, bound, past)

  pub up_to_last : (link : Link) (links : List Link) → All IsLow (link ∷ links)
      → between first link.first ≤ count + 2147483648
      → AreFull least first used link links entries → AreAscending link links
      → is_by (last_of link links).first ((first + count) % 4294967296) ≡ true
      → (between first (last_of link links).first ≤ count)
      × All (IsUpTo first (between first (last_of link links).first)) (link ∷ links)
  up_to_last link [] own bound full up by =
      let P = IsUpTo first (between first link.first) in (
        last_up link.first (All-head IsLow link [] own) bound
            (by_low link.first ((first + count) % 4294967296) by),
        All-cons P link [] (omega arith) (All-nil P),
      )
  up_to_last link (next ∷ links) own bound full up by =
      let last = between first (last_of next links).first in
      let P = IsUpTo first last in
      let here = All-head IsLow link (next ∷ links) own in
      let rest_own = All-tail IsLow link (next ∷ links) own in
      let there = All-head IsLow next links rest_own in
      let far = some_there (between link.first next.first) (between first link.first) entries
      (omega (arith, some, full.0)) in
      let near : between first link.first < count = omega (arith, far, many) in
      let past = by_high next.first link.first up.0 in
      let (within, all) = up_to_last next links rest_own
      (next_up link.first next.first here there near past) full.1 up.1 by in
      let least_of_rest = All-head P next links all in
      let rises = next_more link.first next.first here there near past in
      (within, All-cons P link (next ∷ links) (omega (arith, rises, least_of_rest)) all)

-- the block of a number past each link's first one is the last one
pub last_for : (number : ℕ) (link : Link) (links : List Link)
    → All (λ (l : Link). is_by l.first number ≡ true) links
    → block_for number link links ≡ (last_of link links).block
last_for number link [] all = refl
last_for number link (next ∷ links) all =
    let P : Link → Type 0 = λ l. is_by l.first number ≡ true in
    ap (λ (b : Bool). if b then block_for number next links else link.block)
    (All-head P next links all)
    ∙ last_for number next links (All-tail P next links all)

-- another last link

pub swapped_all : (P : Link → Type 0) (new link : Link) (links swapped : List Link)
    → swap_last new (link ∷ links) ≡ Some swapped → All P (link ∷ links) → P new → All P swapped
swapped_all P new link [] swapped is all here =
    subst (All P) (same_Some (new ∷ []) swapped is) (All-cons P new [] here (All-nil P))
swapped_all P new link (next ∷ links) swapped is all here =
    let (deeper, made, last) = some_then (swap_last new (next ∷ links))
    (λ (l : List Link). Some (link ∷ l)) swapped is in
    subst (All P) (same_Some (link ∷ deeper) swapped last)
    (All-cons P link deeper (All-head P link (next ∷ links) all)
    (swapped_all P new next links deeper made (All-tail P link (next ∷ links) all) here))

-- a number in front of the last link's first one has the same block
pub same_for : (number : ℕ) (new link next : Link) (links swapped : List Link)
    → swap_last new (next ∷ links) ≡ Some swapped → new.first ≡ (last_of next links).first
    → is_by (last_of next links).first number ≡ false
    → block_for number link swapped ≡ block_for number link (next ∷ links)
same_for number new link next [] swapped is same before =
    ap (block_for number link) (sym (same_Some (new ∷ []) swapped is))
    ∙ ap (λ (n : ℕ). if is_by n number then new.block else link.block) same
    ∙ ap (λ (b : Bool). if b then new.block else link.block) before
    ∙ ap (λ (b : Bool). if b then next.block else link.block) (sym before)
same_for number new link next (third ∷ links) swapped is same before =
    let (deeper, made, last) = some_then (swap_last new (third ∷ links))
    (λ (l : List Link). Some (next ∷ l)) swapped is in
    ap (block_for number link) (sym (same_Some (next ∷ deeper) swapped last))
    ∙ ap (λ (n : ℕ). if is_by next.first number then n else link.block)
    (same_for number new next third links deeper made same before)
