-- The links of a store behind a put: a record more, and some fewer in front.
use Rattle.std.proofs.Common.{◌≡◌, inl, inr, ℕ, ◌+◌, ◌-◌, ◌%◌, ◌<◌, ◌≤◌, Bool, List, [], ◌∷◌, ◌++◌, length, take, drop, refl, sym, ◌∙◌, ap, subst, arith, length-append, length-drop}
use Rattle.std.specs.Prelude.{if◌then◌else◌}
use Rattle.std.proofs.lemmas.Bool.{cases_lt}
use Rattle.std.proofs.lemmas.List.{drop-drop, drop_all, take_rest}
use Rattle.space_packet.specs.Charge.{charge_of}
use Rattle.record_view.specs.declared.link.Link.{Link}
use Rattle.store_directory.specs.Directory.{trim_front}
use Rattle.store_directory.specs.Rows.{is_by}
use Rattle.store_load.specs.Extents.{last_of}
use Rattle.store_load.specs.InRange.{AreInBlocks, block_for}
use Rattle.store_load.proofs.InRange.{in_rest}
use Rattle.time_index.specs.TimeIndex.{pages_of}
use Rattle.time_index.specs.declared.entry.Entry.{Entry}
use Rattle.store_put.proofs.Laid.{First, Laid, in_longer, in_more, in_next, laid_at, laid_by, laid_on, last_of_first, next_es, pages_least, pages_more, pages_rest, some_pages}
use Rattle.store_put.proofs.Spots.{at_spot, by_spot, not_by_spot}

-- what the links are trimmed to by a first number
pub record Stepped (g d e used : ℕ) (es : List Entry) (link : Link) (links : List Link) : Type 0 where
  pub place : ℕ
  pub front : Link
  pub behind : List Link
  pub trimmed_is : trim_front (at_spot g d) link links ≡ front ∷ behind
  pub is_first : First g d e used es place front behind
  pub in_blocks : AreInBlocks (at_spot g d) front behind es

module _ (g d e used gone : ℕ) (es : List Entry) (new : Entry) (low : g < 4294967296) (long : e ≡ d + length es) (few : e ≤ 400000)
    (within : gone ≤ length es) where
  abbrev es_next : List Entry
  es_next = next_es d e gone es new long

  many : d + gone + length es_next ≡ e + 1
  many = let one = length-append (drop gone es) (new ∷ []) in let rest = length-drop gone es in omega (arith, one, rest, long, within)

  passed : (q : ℕ) (next : Link) (links : List Link) (link : Link) → next.first ≡ at_spot g q → q ≤ d + gone
      → trim_front (at_spot g (d + gone)) link (next ∷ links) ≡ trim_front (at_spot g (d + gone)) next links
  passed q next links link is le =
      ap (λ (b : Bool). if b then trim_front (at_spot g (d + gone)) next links else link ∷ next ∷ links)
      (ap (λ (n : ℕ). is_by n (at_spot g (d + gone))) is ∙ by_spot g q (d + gone) low le (omega (arith, few, within, long)))

  stays : (q : ℕ) (next : Link) (links : List Link) (link : Link) → next.first ≡ at_spot g q → d + gone < q → q ≤ e
      → trim_front (at_spot g (d + gone)) link (next ∷ links) ≡ link ∷ next ∷ links
  stays q next links link is lt to =
      ap (λ (b : Bool). if b then trim_front (at_spot g (d + gone)) next links else link ∷ next ∷ links)
      (ap (λ (n : ℕ). is_by n (at_spot g (d + gone))) is ∙ not_by_spot g q (d + gone) low lt (omega (arith, few, to)))

  abbrev Goes : Link → List Link → Type 0
  Goes link links = Stepped g (d + gone) (e + 1) (used + charge_of new.length) es_next link links

  step_laid : (p : ℕ) (link : Link) (links : List Link) → d ≤ p → p ≤ d + gone → Laid g d e used es p link links
      → AreInBlocks (at_spot g (d + gone)) link links es_next → Goes link links
  step_laid p link [] from to laid are =
      let pages = pages_least (drop (p - d) es) in
      let rest = length-drop (p - d) es in
      let was = laid.2 in
      let sum : p - d + (gone - (p - d)) ≡ gone = omega (arith, from, to) in
      let cut = ap pages_of (drop-drop (gone - (p - d)) (p - d) es ∙ ap (λ (n : ℕ). drop n es) sum) in
      let parts = pages_rest (gone - (p - d)) (drop (p - d) es) in
      let more = pages_more (drop gone es) new in
      record {
        place = p;
        front = link;
        behind = [];
        trimmed_is = refl;
        is_first = (laid.0, to, (omega (arith, pages, rest, was, long, from), omega (arith, more, cut, parts, was)));
        in_blocks = are;
      }
  step_laid p link (next ∷ links) from to laid are =
      let (q, past, near, full, behind) = laid.2 in
      let is = laid_at g d e used es q next links behind in
      let before = laid_by g d e used es q next links behind in
      elim (cases_lt (d + gone) q) [
        | inl lt ↦ record {
          place = p;
          front = link;
          behind = next ∷ links;
          trimmed_is = stays q next links link is lt before;
          is_first = (laid.0, to, (q, lt, near, laid_on d e gone es new long g used q next links (omega (arith, lt)) behind));
          in_blocks = are;
        }
        | inr le ↦
            let rest = step_laid q next links (omega (arith, from, past)) le behind
            (in_next g q (d + gone) link next links es_next low is le (omega (arith, many, few)) are) in
            record {
              place = rest.place;
              front = rest.front;
              behind = rest.behind;
              trimmed_is = passed q next links link is le ∙ rest.trimmed_is;
              is_first = rest.is_first;
              in_blocks = rest.in_blocks;
            }
      ]

  step_first : (p : ℕ) (link : Link) (links : List Link) → First g d e used es p link links
      → AreInBlocks (at_spot g (d + gone)) link links es_next → Goes link links
  step_first p link [] first are =
      let parts = pages_rest gone es in
      let more = pages_more (drop gone es) new in
      record {
        place = p;
        front = link;
        behind = [];
        trimmed_is = refl;
        is_first = (first.0, omega (arith, first.1), (omega (arith, first.2.0), omega (arith, more, parts, first.2.1)));
        in_blocks = are;
      }
  step_first p link (next ∷ links) first are =
      let (q, past, near, behind) = first.2 in
      let is = laid_at g d e used es q next links behind in
      let before = laid_by g d e used es q next links behind in
      elim (cases_lt (d + gone) q) [
        | inl lt ↦ record {
          place = p;
          front = link;
          behind = next ∷ links;
          trimmed_is = stays q next links link is lt before;
          is_first = (first.0, omega (arith, first.1), (q, lt, near, laid_on d e gone es new long g used q next links (omega (arith, lt)) behind));
          in_blocks = are;
        }
        | inr le ↦
            let rest = step_laid q next links (omega (arith, past)) le behind
            (in_next g q (d + gone) link next links es_next low is le (omega (arith, many, few)) are) in
            record {
              place = rest.place;
              front = rest.front;
              behind = rest.behind;
              trimmed_is = passed q next links link is le ∙ rest.trimmed_is;
              is_first = rest.is_first;
              in_blocks = rest.in_blocks;
            }
      ]

  -- the record goes into the last block
  pub stepped : (p : ℕ) (link : Link) (links : List Link) → First g d e used es p link links → AreInBlocks (at_spot g d) link links es
      → new.block ≡ (last_of link links).block → Goes link links
  stepped p link links first are is =
      let same : g + d + gone ≡ g + (d + gone) = omega arith in
      let moved = subst (λ (n : ℕ). AreInBlocks (n % 4294967296) link links (drop gone es)) same (in_rest g d gone link links es are) in
      let rest = length-drop gone es in
      let there : d + gone + length (drop gone es) ≡ e = omega (arith, rest, long, within) in
      step_first p link links first
      (in_more g (d + gone) link links (drop gone es) new moved
      (is ∙ sym (last_of_first g d e used es low long few p link links first) ∙ ap (λ (n : ℕ). block_for (at_spot g n) link links) (sym there)))

-- a block more, behind a full last one
module _ (g d e used : ℕ) (es : List Entry) (new : Link) (low : g < 4294967296) (long : e ≡ d + length es) (few : e ≤ 400000)
    (full : 240 ≤ used) (most : used ≤ 256) (is : new.first ≡ at_spot g e) where
  none_left : 0 ≡ pages_of (drop (e - d) es)
  none_left = ap pages_of (sym (drop_all (e - d) es (omega (arith, long))))

  longer_laid : (p : ℕ) (link : Link) (links : List Link) → d ≤ p → Laid g d e used es p link links → Laid g d e 0 es p link (links ++ new ∷ [])
  longer_laid p link [] from laid =
      let was = laid.2 in
      let some = some_pages (drop (p - d) es) (omega (arith, was, full)) in
      let pages = pages_least (drop (p - d) es) in
      let rest = length-drop (p - d) es in
      let far : e - p ≡ length es - (p - d) = omega (arith, long, from, laid.1) in
      let all : take (e - p) (drop (p - d) es) ≡ drop (p - d) es = ap (λ (n : ℕ). take n (drop (p - d) es)) far ∙ take_rest es (p - d) in
      let cost = ap pages_of all in (
        laid.0,
        laid.1,
        (e, omega (arith, some, rest, long, from), omega (arith, pages, rest, was, most, long, from), omega (arith, cost, was, full), (is, omega arith, none_left)),
      )
  longer_laid p link (next ∷ links) from laid =
      let (q, past, near, filled, behind) = laid.2 in
      (laid.0, laid.1, (q, past, near, filled, longer_laid q next links (omega (arith, from, past)) behind))

  longer_first : (p : ℕ) (link : Link) (links : List Link) → 1 ≤ length es → First g d e used es p link links → First g d e 0 es p link (links ++ new ∷ [])
  longer_first p link [] some first = (first.0, first.1, (e, omega (arith, some, long), omega (arith, first.2.0, most), (is, omega arith, none_left)))
  longer_first p link (next ∷ links) some first =
      let (q, past, near, behind) = first.2 in
      (first.0, first.1, (q, past, near, longer_laid q next links (omega (arith, past)) behind))

  pub longer : (p : ℕ) (link : Link) (links : List Link) → 1 ≤ length es → First g d e used es p link links → AreInBlocks (at_spot g d) link links es
      → First g d e 0 es p link (links ++ new ∷ []) × AreInBlocks (at_spot g d) link (links ++ new ∷ []) es
  longer p link links some first are = (longer_first p link links some first, in_longer g d e new link links es low is (omega (arith, long)) few are)
