-- What is in range, by the places of the links, and back.
use Rattle.std.proofs.Common.{◌≡◌, inl, inr, ℕ, ◌+◌, ◌-◌, ◌%◌, ◌<◌, ◌≤◌, ◌&&◌, nat_lt, not, true, false, Bool, List, [], ◌∷◌, All, length, take, drop, refl, sym, ◌∙◌, ap, ap₂, subst, arith, length-drop}
use Rattle.std.specs.Prelude.{min}
use Rattle.std.proofs.lemmas.Bool.{cases_lt, false≢true}
use Rattle.std.proofs.lemmas.Bool.Decides.{nat_tests}
use Rattle.std.proofs.lemmas.List.{length-take}
use Rattle.std.proofs.lemmas.List.Elements.{All-head, All-tail}
use Rattle.record_view.specs.declared.link.Link.{Link}
use Rattle.store_directory.specs.Directory.{FitsLink}
use Rattle.store_directory.specs.Rows.{between, is_by}
use Rattle.store_directory.specs.declared.row.Row.{Row}
use Rattle.store_load.specs.Extents.{end_of, last_of}
use Rattle.store_load.specs.InRange.{AreAscending, AreFilled, AreFull, AreInOrder}
use Rattle.store_load.specs.Kept.{begins_well}
use Rattle.store_load.proofs.Counting.{by_low, ends_at, first_by}
use Rattle.store_load.proofs.Eachs.{two}
use Rattle.store_load.proofs.Full.{few_dead}
use Rattle.time_index.specs.TimeIndex.{TimeIndex, pages_of}
use Rattle.time_index.specs.declared.entry.Entry.{Entry}
use Rattle.store_put.proofs.Laid.{First, Laid, laid_at, laid_by, pages_least, some_pages}
use Rattle.store_put.proofs.Spots.{at_spot, by_spot, not_by_spot, spot_of, spots_behind, spots_between}
use Rattle.store_put.specs.Ranges.{AreFew, IsInPlace}

not_true : (b : Bool) → not b ≡ true → b ≡ false
not_true true h = sym h
not_true false h = refl

no_pages : (es : List Entry) → length es ≡ 0 → pages_of es ≡ 0
no_pages [] h = refl
no_pages (e ∷ es) h = absurd (omega (arith, h))

both : (a b : Bool) → a ≡ true → b ≡ true → (a && b) ≡ true
both true b h k = k
both false b h k = absurd (false≢true h)

positive : (n : ℕ) → 1 ≤ n → nat_lt 0 n ≡ true
positive n h = grind (arith, nat_tests)

-- the places of links, behind the first one

module _ (g d e used : ℕ) (es : List Entry) (low : g < 4294967296) (long : e ≡ d + length es) (bound : e ≤ 300000) where
  abbrev from_d : ℕ
  from_d = at_spot g d

  away : (p : ℕ) (link : Link) → d ≤ p → p ≤ e + 256 → link.first ≡ at_spot g p → between from_d link.first ≡ p - d
  away p link from near is = ap (between from_d) is ∙ spots_between g d p low from (omega (arith, near, bound))

  to_laid : (p : ℕ) (link : Link) (links : List Link) → All FitsLink (link ∷ links) → d ≤ p → p ≤ e + 256 → link.first ≡ at_spot g p
      → AreFull 240 from_d used link links es → AreFew used (at_spot g e) link links → Laid g d e used es p link links
  to_laid p link [] fit from near is full few =
      let far = away p link from near is in
      let used_is : used ≡ pages_of (drop (p - d) es) = full ∙ ap (λ (n : ℕ). pages_of (drop n es)) far in
      elim (cases_lt e p) [
        | inl lt ↦
            let rest = length-drop (p - d) es in
            let none = no_pages (drop (p - d) es) (omega (arith, rest, lt, long)) in
            let apart = spots_behind g p e low lt (omega (arith, near, bound)) in
            let same = ap (λ (n : ℕ). between n (at_spot g e)) is in
            absurd (omega (arith, few, used_is, none, apart, same))
        | inr le ↦ (is, le, used_is)
      ]
  to_laid p link (next ∷ links) fit from near is full few =
      let far = away p link from near is in
      let m = between link.first next.first in
      let cut : pages_of (take m (drop (between from_d link.first) es)) ≡ pages_of (take m (drop (p - d) es)) =
      ap (λ (n : ℕ). pages_of (take m (drop n es))) far in
      let some = some_pages (take m (drop (p - d) es)) (omega (arith, full.0, cut)) in
      let taken = length-take m (drop (p - d) es) in
      let rest = length-drop (p - d) es in
      let within : p < e = short m (length (drop (p - d) es)) (omega (arith, some, taken)) rest in
      let positive : 1 ≤ m = least m (length (drop (p - d) es)) (omega (arith, some, taken)) in
      let rest_fit = All-tail FitsLink link (next ∷ links) fit in
      let there : next.first ≡ at_spot g (p + m) =
      spot_of g p next.first low (All-head FitsLink next links rest_fit).1 (omega (arith, near, bound))
      ∙ ap (λ (n : ℕ). at_spot g (p + between n next.first)) (sym is) in
      let back : p + m - p ≡ m = omega arith in
      let pages = ap (λ (n : ℕ). pages_of (take n (drop (p - d) es))) back in (
        is,
        omega (arith, within),
        (
          p + m,
          omega (arith, positive),
          omega (arith, few.0),
          omega (arith, full.0, cut, pages),
          to_laid (p + m) next links rest_fit (omega (arith, from)) (omega (arith, few.0, within)) there full.1 few.1,
        ),
      )
    where
      short : (m n : ℕ) → 1 ≤ min m n → n ≡ length es - (p - d) → p < e
      short m n h is = omega (arith, h, is, long, from)

      least : (m n : ℕ) → 1 ≤ min m n → 1 ≤ m
      least m n h = omega (arith, h)

  -- and back

  asc_laid : (p : ℕ) (link : Link) (links : List Link) → Laid g d e used es p link links → AreAscending link links
  asc_laid p link [] laid = tt
  asc_laid p link (next ∷ links) laid =
      let (q, past, near, full, behind) = laid.2 in
      let to = laid_by g d e used es q next links behind in (
        ap₂ is_by (laid_at g d e used es q next links behind) laid.0 ∙ not_by_spot g q p low past (omega (arith, to, bound)),
        asc_laid q next links behind,
      )

  last_laid : (p : ℕ) (link : Link) (links : List Link) → Laid g d e used es p link links → is_by (last_of link links).first (at_spot g e) ≡ true
  last_laid p link [] laid = ap (λ (n : ℕ). is_by n (at_spot g e)) laid.0 ∙ by_spot g p e low laid.1 (omega (arith, bound))
  last_laid p link (next ∷ links) laid = let (q, past, near, full, behind) = laid.2 in last_laid q next links behind

  full_laid : (p : ℕ) (link : Link) (links : List Link) → d ≤ p → Laid g d e used es p link links → AreFull 240 from_d used link links es
  full_laid p link [] from laid =
      laid.2 ∙ ap (λ (n : ℕ). pages_of (drop n es)) (sym (away p link from (omega (arith, laid.1)) laid.0))
  full_laid p link (next ∷ links) from laid =
      let (q, past, near, full, behind) = laid.2 in
      let to = laid_by g d e used es q next links behind in
      let far = away p link from (omega (arith, laid.1)) laid.0 in
      let wide : between link.first next.first ≡ q - p =
      ap₂ between laid.0 (laid_at g d e used es q next links behind) ∙ spots_between g p q low (omega (arith, past)) (omega (arith, to, bound)) in
      let same = ap₂ (λ (m n : ℕ). pages_of (take m (drop n es))) wide far in
      (omega (arith, full, same), full_laid q next links (omega (arith, from, past)) behind)

  few_laid : (p : ℕ) (link : Link) (links : List Link) → d ≤ p → Laid g d e used es p link links → AreFew used (at_spot g e) link links
  few_laid p link [] from laid =
      let wide = ap (λ (n : ℕ). between n (at_spot g e)) laid.0 ∙ spots_between g p e low laid.1 (omega (arith, bound)) in
      let pages = pages_least (drop (p - d) es) in
      let rest = length-drop (p - d) es in
      let was = laid.2 in
      omega (arith, wide, pages, rest, was, long, from)
  few_laid p link (next ∷ links) from laid =
      let (q, past, near, full, behind) = laid.2 in
      let to = laid_by g d e used es q next links behind in
      let wide = ap₂ between laid.0 (laid_at g d e used es q next links behind) ∙ spots_between g p q low (omega (arith, past)) (omega (arith, to, bound)) in
      (omega (arith, wide, near), few_laid q next links (omega (arith, from, past)) behind)

  -- the same of the first link

  pub ordered_first : (p : ℕ) (link : Link) (links : List Link) → First g d e used es p link links → AreInOrder (at_spot g e) (link ∷ links)
  ordered_first p link [] first =
      (tt, ap (λ (n : ℕ). is_by n (at_spot g e)) first.0 ∙ by_spot g p e low (omega (arith, first.1, long)) (omega (arith, bound)))
  ordered_first p link (next ∷ links) first =
      let (q, past, near, behind) = first.2 in
      let to = laid_by g d e used es q next links behind in (
        (
          ap₂ is_by (laid_at g d e used es q next links behind) first.0 ∙ not_by_spot g q p low (omega (arith, past, first.1)) (omega (arith, to, bound)),
          asc_laid q next links behind,
        ),
        last_laid q next links behind,
      )

  pub filled_first : (p : ℕ) (link : Link) (links : List Link) → First g d e used es p link links → AreFilled 240 from_d used (link ∷ links) es
  filled_first p link [] first = first.2.1
  filled_first p link (next ∷ links) first = let (q, past, near, behind) = first.2 in full_laid q next links (omega (arith, past)) behind

  pub few_first : (p : ℕ) (link : Link) (links : List Link) → First g d e used es p link links → AreFew used (at_spot g e) link links
  few_first p link [] first =
      let wide = ap (λ (n : ℕ). between n (at_spot g e)) first.0 ∙ spots_between g p e low (omega (arith, first.1, long)) (omega (arith, bound)) in
      omega (arith, wide, first.2.0)
  few_first p link (next ∷ links) first =
      let (q, past, near, behind) = first.2 in
      let to = laid_by g d e used es q next links behind in
      let wide = ap₂ between first.0 (laid_at g d e used es q next links behind)
      ∙ spots_between g p q low (omega (arith, past, first.1)) (omega (arith, to, bound)) in
      (omega (arith, wide, near), few_laid q next links (omega (arith, past)) behind)

  pub begins_first : (row : Row) (p : ℕ) (link : Link) (links : List Link) → row.first ≡ from_d → 1 ≤ row.count → First g d e used es p link links
      → begins_well row (link ∷ links) ≡ true
  begins_first row p link [] is some first =
      both (nat_lt 0 row.count) (is_by link.first row.first) (positive row.count some)
      (ap₂ is_by first.0 is ∙ by_spot g p d low first.1 (omega (arith, long, bound)))
  begins_first row p link (next ∷ links) is some first =
      let (q, past, near, behind) = first.2 in
      let to = laid_by g d e used es q next links behind in
      both (nat_lt 0 row.count && is_by link.first row.first) (not (is_by next.first row.first))
      (both (nat_lt 0 row.count) (is_by link.first row.first) (positive row.count some)
      (ap₂ is_by first.0 is ∙ by_spot g p d low first.1 (omega (arith, long, bound))))
      (ap not (ap₂ is_by (laid_at g d e used es q next links behind) is ∙ not_by_spot g q d low past (omega (arith, to, bound))))

-- the links of a store that is in place
pub to_first : (now : ℕ) (row : Row) (link : Link) (links : List Link) (index : TimeIndex) (used : ℕ) → IsInPlace now row (link ∷ links) index used
    → All FitsLink (link ∷ links) → row.first < 4294967296 → row.count ≤ 100000
    → (d : ℕ) × (d ≤ 256) × (row.first ≡ at_spot link.first d) × First link.first d (d + length index.entries) used index.entries 0 link links
to_first now row link [] index used place fit low few =
    let own = (All-head FitsLink link [] fit).1 in
    let d = between link.first row.first in
    let by = by_low link.first row.first (first_by row link [] place.in_range.begins) in
    let wide = ends_at link.first row.first row.count own low few by in
    let most = place.in_range.used_within in
    let count = place.in_range.count in
    let there : row.first ≡ at_spot link.first d = omega (arith, own, low) in
    (d, omega (arith, wide, place.few, most), there, (omega (arith, own), omega arith, (omega (arith, wide, place.few, count), place.in_range.filled)))
to_first now row link (next ∷ links) index used place fit low few =
    let own = (All-head FitsLink link (next ∷ links) fit).1 in
    let rest_fit = All-tail FitsLink link (next ∷ links) fit in
    let next_own = (All-head FitsLink next links rest_fit).1 in
    let d = between link.first row.first in
    let m = between link.first next.first in
    let past : is_by next.first row.first ≡ false =
    not_true (is_by next.first row.first) (two (nat_lt 0 row.count && is_by link.first row.first) (not (is_by next.first row.first)) place.in_range.begins) in
    let dead = few_dead row.first link.first next.first m own next_own low (first_by row link (next ∷ links) place.in_range.begins) past refl place.few.0 in
    let there : row.first ≡ at_spot link.first d = omega (arith, own, low) in
    let next_there : next.first ≡ at_spot link.first m = omega (arith, own, next_own) in
    let count = place.in_range.count in
    let ends : end_of row ≡ at_spot link.first (d + length index.entries) = ends_there link.first d row.first row.count (length index.entries) there count in
    let full = subst (λ (n : ℕ). AreFull 240 n used next links index.entries) there place.in_range.filled in
    let fews = subst (λ (n : ℕ). AreFew used n next links) ends place.few.1 in (
      d,
      omega (arith, dead, place.few.0),
      there,
      (
        omega (arith, own),
        omega arith,
        (
          m,
          dead,
          omega (arith, place.few.0),
          to_laid link.first d (d + length index.entries) used index.entries own refl (omega (arith, dead, place.few.0, count, few))
              m next links rest_fit (omega (arith, dead)) (omega (arith, place.few.0)) next_there full fews,
        ),
      ),
    )
  where
    ends_there : (g d f n k : ℕ) → f ≡ at_spot g d → k ≡ n → (f + n) % 4294967296 ≡ at_spot g (d + k)
    ends_there g d f n k is same = omega (arith, is, same)
