-- What is in place of a store whose first packets left, and none came.
use Rattle.std.proofs.Common.{◌≡◌, inl, inr, ℕ, zero, suc, ◌+◌, ◌-◌, ◌%◌, ◌<◌, ◌≤◌, Bool, List, [], ◌∷◌, All, length, take, drop, refl, sym, ◌∙◌, ap, subst, arith, length-drop, eqb-true}
use Rattle.std.specs.Prelude.{if◌then◌else◌}
use Rattle.std.proofs.lemmas.Bool.{cases_lt, eq-eqb}
use Rattle.std.proofs.lemmas.List.{drop-drop, drop_all}
use Rattle.std.proofs.lemmas.List.Elements.{All-drop, All-head}
use Rattle.image_table.specs.Table.{table_rule}
use Rattle.record_view.specs.declared.link.Link.{Link}
use Rattle.store_directory.specs.Directory.{FitsLink, trim_front, trimmed}
use Rattle.store_directory.specs.Rows.{is_by}
use Rattle.store_directory.specs.declared.row.Row.{Row}
use Rattle.store_load.specs.Extents.{end_of}
use Rattle.store_load.specs.InRange.{AreFilled, AreInBlocks, AreInOrder, IsPlaced}
use Rattle.store_load.specs.Kept.{begins_well}
use Rattle.store_load.specs.Moving.{GoesOn}
use Rattle.store_load.proofs.InRange.{in_rest}
use Rattle.time_index.specs.TimeIndex.{TimeIndex, pages_of, without_first}
use Rattle.time_index.specs.declared.entry.Entry.{Entry}
use Rattle.store_put.proofs.Going.{trimmed_some}
use Rattle.store_put.proofs.Laid.{First, Laid, in_next, laid_at, laid_by, pages_least, pages_rest}
use Rattle.store_put.proofs.Places.{begins_first, few_first, filled_first, ordered_first, to_first}
use Rattle.store_put.proofs.Spots.{at_spot, by_spot, not_by_spot, spot_on}
use Rattle.store_put.proofs.Stepped.{Stepped}
use Rattle.store_put.specs.Ranges.{AreFew, IsInPlace, used_for}

-- the links from a place on, where those entries are left

module _ (g d e used gone : ℕ) (es : List Entry) (low : g < 4294967296) (long : e ≡ d + length es) (few : e ≤ 400000) (within : gone ≤ length es) where
  abbrev left : List Entry
  left = drop gone es

  abbrev Goes : Link → List Link → Type 0
  Goes link links = Stepped g (d + gone) e used left link links

  many : d + gone + length left ≡ e
  many = let rest = length-drop gone es in omega (arith, rest, long, within)

  rest_on : (p : ℕ) → d + gone ≤ p → drop (p - (d + gone)) left ≡ drop (p - d) es
  rest_on p from =
      let sum : gone + (p - (d + gone)) ≡ p - d = omega (arith, from) in
      drop-drop (p - (d + gone)) gone es ∙ ap (λ (n : ℕ). drop n es) sum

  laid_on : (p : ℕ) (link : Link) (links : List Link) → d + gone ≤ p → Laid g d e used es p link links → Laid g (d + gone) e used left p link links
  laid_on p link [] from laid = (laid.0, laid.1, laid.2 ∙ ap pages_of (sym (rest_on p from)))
  laid_on p link (next ∷ links) from laid =
      let (q, past, near, full, behind) = laid.2 in
      let pages = ap (λ (l : List Entry). pages_of (take (q - p) l)) (rest_on p from) in
      (laid.0, laid.1, (q, past, near, omega (arith, full, pages), laid_on q next links (omega (arith, from, past)) behind))

  passed : (q : ℕ) (next : Link) (links : List Link) (link : Link) → next.first ≡ at_spot g q → q ≤ d + gone
      → trim_front (at_spot g (d + gone)) link (next ∷ links) ≡ trim_front (at_spot g (d + gone)) next links
  passed q next links link is le =
      ap (λ (b : Bool). if b then trim_front (at_spot g (d + gone)) next links else link ∷ next ∷ links)
      (ap (λ (n : ℕ). is_by n (at_spot g (d + gone))) is ∙ by_spot g q (d + gone) low le (omega (arith, few, within, long)))

  stays : (q : ℕ) (next : Link) (links : List Link) (link : Link) → next.first ≡ at_spot g q → d + gone < q → q ≤ e
      → trim_front (at_spot g (d + gone)) link (next ∷ links) ≡ link ∷ next ∷ links
  stays q next links link is lt to =
      ap (λ (b : Bool). if b then trim_front (at_spot g (d + gone)) next links else link ∷ next ∷ links)
      (ap (λ (n : ℕ). is_by n (at_spot g (d + gone))) is ∙ not_by_spot g q (d + gone) low lt (omega (arith, few, to)))

  step_laid : (p : ℕ) (link : Link) (links : List Link) → d ≤ p → p ≤ d + gone → Laid g d e used es p link links
      → AreInBlocks (at_spot g (d + gone)) link links left → Goes link links
  step_laid p link [] from to laid are =
      let pages = pages_least (drop (p - d) es) in
      let rest = length-drop (p - d) es in
      let was = laid.2 in
      let sum : p - d + (gone - (p - d)) ≡ gone = omega (arith, from, to) in
      let cut = ap pages_of (drop-drop (gone - (p - d)) (p - d) es ∙ ap (λ (n : ℕ). drop n es) sum) in
      let parts = pages_rest (gone - (p - d)) (drop (p - d) es) in
      record {
        place = p;
        front = link;
        behind = [];
        trimmed_is = refl;
        is_first = (laid.0, to, (omega (arith, pages, rest, was, long, from), omega (arith, cut, parts, was)));
        in_blocks = are;
      }
  step_laid p link (next ∷ links) from to laid are =
      let (q, past, near, full, behind) = laid.2 in
      let is = laid_at g d e used es q next links behind in
      let before = laid_by g d e used es q next links behind in
      elim (cases_lt (d + gone) q) [
        | inl lt ↦ record {
          place = p;
          front = link;
          behind = next ∷ links;
          trimmed_is = stays q next links link is lt before;
          is_first = (laid.0, to, (q, lt, near, laid_on q next links (omega (arith, lt)) behind));
          in_blocks = are;
        }
        | inr le ↦
            let rest = step_laid q next links (omega (arith, from, past)) le behind
            (in_next g q (d + gone) link next links left low is le (omega (arith, many, few)) are) in
            record {
              place = rest.place;
              front = rest.front;
              behind = rest.behind;
              trimmed_is = passed q next links link is le ∙ rest.trimmed_is;
              is_first = rest.is_first;
              in_blocks = rest.in_blocks;
            }
      ]

  step_first : (p : ℕ) (link : Link) (links : List Link) → First g d e used es p link links
      → AreInBlocks (at_spot g (d + gone)) link links left → Goes link links
  step_first p link [] first are =
      let parts = pages_rest gone es in
      record {
        place = p;
        front = link;
        behind = [];
        trimmed_is = refl;
        is_first = (first.0, omega (arith, first.1), (omega (arith, first.2.0), omega (arith, parts, first.2.1)));
        in_blocks = are;
      }
  step_first p link (next ∷ links) first are =
      let (q, past, near, behind) = first.2 in
      let is = laid_at g d e used es q next links behind in
      let before = laid_by g d e used es q next links behind in
      elim (cases_lt (d + gone) q) [
        | inl lt ↦ record {
          place = p;
          front = link;
          behind = next ∷ links;
          trimmed_is = stays q next links link is lt before;
          is_first = (first.0, omega (arith, first.1), (q, lt, near, laid_on q next links (omega (arith, lt)) behind));
          in_blocks = are;
        }
        | inr le ↦
            let rest = step_laid q next links (omega (arith, past)) le behind
            (in_next g q (d + gone) link next links left low is le (omega (arith, many, few)) are) in
            record {
              place = rest.place;
              front = rest.front;
              behind = rest.behind;
              trimmed_is = passed q next links link is le ∙ rest.trimmed_is;
              is_first = rest.is_first;
              in_blocks = rest.in_blocks;
            }
      ]

  dropped : (p : ℕ) (link : Link) (links : List Link) → First g d e used es p link links → AreInBlocks (at_spot g d) link links es → Goes link links
  dropped p link links first are =
      let same : g + d + gone ≡ g + (d + gone) = omega arith in
      step_first p link links first
      (subst (λ (n : ℕ). AreInBlocks (n % 4294967296) link links left) same (in_rest g d gone link links es are))

module _ (now : ℕ) (row next : Row) (index : TimeIndex) (used gone : ℕ) (low : row.first < 4294967296) (few : row.count ≤ 100000)
    (goes : GoesOn gone 0 row next) (size : next.size ≡ row.size) where
  abbrev es : List Entry
  es = index.entries

  module _ (links : List Link) (place : IsInPlace now row links index used) where
    next_count : length (drop gone es) ≡ next.count
    next_count =
        let rest = length-drop gone es in
        let count = place.in_range.count in
        omega (arith, rest, count, goes.count)

    next_pages : pages_of (drop gone es) ≤ next.size
    next_pages =
        let parts = pages_rest gone es in
        let most = place.in_range.pages in
        omega (arith, parts, most, size)

    next_first : (index.first + gone) % 4294967296 ≡ next.first
    next_first = ap (λ (n : ℕ). (n + gone) % 4294967296) place.in_range.first ∙ sym goes.first

  -- no packet is left
  none_left : (links : List Link) → IsInPlace now row links index used → next.count ≡ 0 → IsInPlace now next [] (without_first index gone) 0
  none_left links place none =
      let count = place.in_range.count in
      record {
        in_range = record {
          begins = eq-eqb next.count 0 none;
          first = next_first links place;
          count = next_count links place;
          size = place.in_range.size ∙ sym size;
          pages = next_pages links place;
          placed = All-drop (IsPlaced table_rule now) gone es place.in_range.placed;
          blocks = drop_all gone es (omega (arith, count, none, goes.count));
          order = tt;
          filled = refl;
          used_within = omega arith;
        };
        few = tt;
      }

  -- some are
  some_left : (link : Link) (links : List Link) → IsInPlace now row (link ∷ links) index used → All FitsLink (link ∷ links) → 1 ≤ next.count
      → IsInPlace now next (trimmed next.first next.count (link ∷ links)) (without_first index gone) used
  some_left link links place fit some =
      let (d, dead, there, is_first) = to_first now row link links index used place fit low few in
      let g = link.first in
      let own = (All-head FitsLink link links fit).1 in
      let count = place.in_range.count in
      let e = d + length es in
      let within : gone ≤ length es = omega (arith, count, goes.few) in
      let bound : e ≤ 300000 = omega (arith, count, few, dead) in
      let step = dropped g d e used gone es own refl (omega (arith, bound)) within 0 link links is_first
      (subst (λ (n : ℕ). AreInBlocks n link links es) there place.in_range.blocks) in
      let at : next.first ≡ at_spot g (d + gone) = goes.first ∙ ap (λ (n : ℕ). (n + gone) % 4294967296) there ∙ spot_on g d gone in
      let long : e ≡ d + gone + length (drop gone es) = let rest = length-drop gone es in omega (arith, rest, within) in
      let end : end_of next ≡ at_spot g e = ends g (d + gone) (length (drop gone es)) e next.first next.count at (sym (next_count (link ∷ links) place)) long in
      let cut : trimmed next.first next.count (link ∷ links) ≡ step.front ∷ step.behind =
      trimmed_some next.first next.count link links some ∙ ap (λ (n : ℕ). trim_front n link links) at ∙ step.trimmed_is in
      let most = place.in_range.used_within in
      subst (λ (l : List Link). IsInPlace now next l (without_first index gone) used) (sym cut)
      (record {
        in_range = record {
          begins = begins_first g (d + gone) e used (drop gone es) own long bound next step.place step.front step.behind at some step.is_first;
          first = next_first (link ∷ links) place;
          count = next_count (link ∷ links) place;
          size = place.in_range.size ∙ sym size;
          pages = next_pages (link ∷ links) place;
          placed = All-drop (IsPlaced table_rule now) gone es place.in_range.placed;
          blocks = subst (λ (n : ℕ). AreInBlocks n step.front step.behind (drop gone es)) (sym at) step.in_blocks;
          order =
              subst (λ (n : ℕ). AreInOrder n (step.front ∷ step.behind)) (sym end)
              (ordered_first g (d + gone) e used (drop gone es) own long bound step.place step.front step.behind step.is_first);
          filled =
              subst (λ (n : ℕ). AreFilled 240 n used (step.front ∷ step.behind) (drop gone es)) (sym at)
              (filled_first g (d + gone) e used (drop gone es) own long bound step.place step.front step.behind step.is_first);
          used_within = most;
        };
        few =
            subst (λ (n : ℕ). AreFew used n step.front step.behind) (sym end)
            (few_first g (d + gone) e used (drop gone es) own long bound step.place step.front step.behind step.is_first);
      })
    where
      ends : (g p k e f n : ℕ) → f ≡ at_spot g p → n ≡ k → e ≡ p + k → (f + n) % 4294967296 ≡ at_spot g e
      ends g p k e f n at same long = omega (arith, at, same, long)

  pub left_in_place : (links : List Link) → IsInPlace now row links index used → All FitsLink links
      → IsInPlace now next (trimmed next.first next.count links) (without_first index gone) (used_for next.count used)
  left_in_place links place fit = by_count next.count refl links refl
    where
      at_count : (n : ℕ) → next.count ≡ n → (others : List Link) → IsInPlace now next (trimmed next.first n others) (without_first index gone) (used_for n used)
          → IsInPlace now next (trimmed next.first next.count others) (without_first index gone) (used_for next.count used)
      at_count n is others = subst (λ (m : ℕ). IsInPlace now next (trimmed next.first m others) (without_first index gone) (used_for m used)) (sym is)

      by_count : (n : ℕ) → next.count ≡ n → (others : List Link) → links ≡ others
          → IsInPlace now next (trimmed next.first next.count others) (without_first index gone) (used_for next.count used)
      by_count zero is others same = at_count 0 is others (none_left links place is)
      by_count (suc n) is [] same =
          let none : row.count ≡ 0 = eqb-true row.count 0 (sym (ap (begins_well row) same) ∙ place.in_range.begins) in
          absurd (omega (arith, none, is, goes.count, goes.few))
      by_count (suc n) is (link ∷ others) same =
          let here : IsInPlace now row (link ∷ others) index used = subst (λ (l : List Link). IsInPlace now row l index used) same place in
          at_count (suc n) is (link ∷ others)
          (subst (λ (m : ℕ). IsInPlace now next (trimmed next.first m (link ∷ others)) (without_first index gone) used) is
          (some_left link others here (subst (All FitsLink) same fit) (omega (arith, is))))
