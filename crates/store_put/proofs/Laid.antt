-- The links of a store by the places of their first records, and the entries in their blocks.
use Rattle.std.proofs.Common.{◌≡◌, ℕ, suc, ◌+◌, ◌-◌, ◌<◌, ◌≤◌, Bool, List, [], ◌∷◌, ◌++◌, length, take, drop, refl, sym, ◌∙◌, ap, subst, arith, length-drop}
use Rattle.std.specs.Prelude.{if◌then◌else◌}
use Rattle.std.proofs.lemmas.List.{drop-append-le, drop-drop, take-append-drop, take-append-le}
use Rattle.std.proofs.lemmas.List.Sums.{sum_by-append, sum_by-cons}
use Rattle.space_packet.specs.Charge.{charge_of}
use Rattle.record_view.specs.Records.{number_after}
use Rattle.record_view.specs.declared.link.Link.{Link}
use Rattle.store_directory.specs.Rows.{is_by}
use Rattle.store_load.specs.Extents.{last_of}
use Rattle.store_load.specs.InRange.{AreInBlocks, block_for}
use Rattle.time_index.specs.TimeIndex.{pages_of}
use Rattle.time_index.specs.declared.entry.Entry.{Entry}
use Rattle.store_put.proofs.Spots.{at_spot, by_spot, not_by_spot}

abbrev cost : Entry → ℕ
cost entry = charge_of entry.length

pub pages_more : (es : List Entry) (e : Entry) → pages_of (es ++ e ∷ []) ≡ pages_of es + charge_of e.length
pages_more es e = let both = sum_by-append cost es (e ∷ []) in let one = sum_by-cons cost e [] in omega (arith, both, one)

pub pages_rest : (n : ℕ) (es : List Entry) → pages_of (take n es) + pages_of (drop n es) ≡ pages_of es
pages_rest n es = sym (sum_by-append cost (take n es) (drop n es)) ∙ ap pages_of (take-append-drop n es)

-- each entry takes a page at least
pub pages_least : (es : List Entry) → length es ≤ pages_of es
pages_least [] = omega arith
pages_least (e ∷ es) = let more = sum_by-cons cost e es in omega (arith, more, pages_least es)

pub some_pages : (es : List Entry) → 1 ≤ pages_of es → 1 ≤ length es
some_pages [] h = absurd (omega (arith, h))
some_pages (e ∷ es) h = omega arith

-- A link behind the first one: its place is at the first live record's, `d`, or behind it, and its
-- entries fill its block. The record behind the last one has the place `e`.
abbrev pub Laid : (g d e used : ℕ) → List Entry → (p : ℕ) → Link → List Link → Type 0
Laid g d e used es p link [] = (link.first ≡ at_spot g p) × (p ≤ e) × (used ≡ pages_of (drop (p - d) es))
Laid g d e used es p link (next ∷ links) =
    (link.first ≡ at_spot g p) × (p ≤ e)
    × ((q : ℕ) × (p < q) × (q ≤ p + 256) × (240 ≤ pages_of (take (q - p) (drop (p - d) es))) × Laid g d e used es q next links)

-- The first link: the first live record is in its block. Those of an only block fit its pages in use.
abbrev pub First : (g d e used : ℕ) → List Entry → (p : ℕ) → Link → List Link → Type 0
First g d e used es p link [] = (link.first ≡ at_spot g p) × (p ≤ d) × ((e ≤ p + used) × (pages_of es ≤ used))
First g d e used es p link (next ∷ links) =
    (link.first ≡ at_spot g p) × (p ≤ d) × ((q : ℕ) × (d < q) × (q ≤ p + 256) × Laid g d e used es q next links)

pub laid_by : (g d e used : ℕ) (es : List Entry) (p : ℕ) (link : Link) (links : List Link) → Laid g d e used es p link links → p ≤ e
laid_by g d e used es p link [] laid = laid.1
laid_by g d e used es p link (next ∷ links) laid = laid.1

pub laid_at : (g d e used : ℕ) (es : List Entry) (p : ℕ) (link : Link) (links : List Link) → Laid g d e used es p link links → link.first ≡ at_spot g p
laid_at g d e used es p link [] laid = laid.0
laid_at g d e used es p link (next ∷ links) laid = laid.0

after_spot : (g i : ℕ) → number_after (at_spot g i) ≡ at_spot g (suc i)
after_spot g i = omega arith

module _ (g d e used : ℕ) (es : List Entry) (low : g < 4294967296) (long : e ≡ d + length es) (few : e ≤ 400000) where
  -- the number behind the last record is in the last block
  pub last_for : (p : ℕ) (link : Link) (links : List Link) → Laid g d e used es p link links → block_for (at_spot g e) link links ≡ (last_of link links).block
  last_for p link [] laid = refl
  last_for p link (next ∷ links) laid =
      let (q, past, near, full, behind) = laid.2 in
      ap (λ (b : Bool). if b then block_for (at_spot g e) next links else link.block)
      (ap (λ (n : ℕ). is_by n (at_spot g e)) (laid_at g d e used es q next links behind)
      ∙ by_spot g q e low (laid_by g d e used es q next links behind) (omega (arith, few)))
      ∙ last_for q next links behind

  pub last_of_first : (p : ℕ) (link : Link) (links : List Link) → First g d e used es p link links → block_for (at_spot g e) link links ≡ (last_of link links).block
  last_of_first p link [] first = refl
  last_of_first p link (next ∷ links) first =
      let (q, past, near, behind) = first.2 in
      ap (λ (b : Bool). if b then block_for (at_spot g e) next links else link.block)
      (ap (λ (n : ℕ). is_by n (at_spot g e)) (laid_at g d e used es q next links behind)
      ∙ by_spot g q e low (laid_by g d e used es q next links behind) (omega (arith, few)))
      ∙ last_for q next links behind

-- one entry more
pub in_more : (g i : ℕ) (link : Link) (links : List Link) (xs : List Entry) (new : Entry) → AreInBlocks (at_spot g i) link links xs
    → new.block ≡ block_for (at_spot g (i + length xs)) link links → AreInBlocks (at_spot g i) link links (xs ++ new ∷ [])
in_more g i link links [] new are is =
    let same : i + 0 ≡ i = omega arith in
    (subst (λ (n : ℕ). new.block ≡ block_for (at_spot g n) link links) same is, tt)
in_more g i link links (x ∷ xs) new are is =
    let same : i + suc (length xs) ≡ suc i + length xs = omega arith in (
      are.0,
      subst (λ (n : ℕ). AreInBlocks n link links (xs ++ new ∷ [])) (sym (after_spot g i))
          (in_more g (suc i) link links xs new (subst (λ (n : ℕ). AreInBlocks n link links xs) (after_spot g i) are.1)
          (subst (λ (n : ℕ). new.block ≡ block_for (at_spot g n) link links) same is)),
    )

-- without a first link that no entry lies in
pub in_next : (g q i : ℕ) (link next : Link) (links : List Link) (xs : List Entry) → g < 4294967296 → next.first ≡ at_spot g q → q ≤ i
    → i + length xs ≤ 400001 → AreInBlocks (at_spot g i) link (next ∷ links) xs → AreInBlocks (at_spot g i) next links xs
in_next g q i link next links [] low is le few are = tt
in_next g q i link next links (x ∷ xs) low is le few are = (
  are.0 ∙ ap (λ (b : Bool). if b then block_for (at_spot g i) next links else link.block)
      (ap (λ (n : ℕ). is_by n (at_spot g i)) is ∙ by_spot g q i low le (omega (arith, few))),
  subst (λ (n : ℕ). AreInBlocks n next links xs) (sym (after_spot g i))
      (in_next g q (suc i) link next links xs low is (omega (arith, le)) (omega (arith, few))
      (subst (λ (n : ℕ). AreInBlocks n link (next ∷ links) xs) (after_spot g i) are.1)),
)

-- a link more behind, before whose number all entries are
block_more : (g i q : ℕ) (new link : Link) (links : List Link) → g < 4294967296 → new.first ≡ at_spot g q → i < q → q ≤ 400000
    → block_for (at_spot g i) link (links ++ new ∷ []) ≡ block_for (at_spot g i) link links
block_more g i q new link [] low is lt few =
    ap (λ (b : Bool). if b then new.block else link.block)
    (ap (λ (n : ℕ). is_by n (at_spot g i)) is ∙ not_by_spot g q i low lt (omega (arith, few)))
block_more g i q new link (next ∷ links) low is lt few =
    ap (λ (n : ℕ). if is_by next.first (at_spot g i) then n else link.block) (block_more g i q new next links low is lt few)

pub in_longer : (g i q : ℕ) (new link : Link) (links : List Link) (xs : List Entry) → g < 4294967296 → new.first ≡ at_spot g q
    → i + length xs ≤ q → q ≤ 400000 → AreInBlocks (at_spot g i) link links xs → AreInBlocks (at_spot g i) link (links ++ new ∷ []) xs
in_longer g i q new link links [] low is le few are = tt
in_longer g i q new link links (x ∷ xs) low is le few are = (
  are.0 ∙ sym (block_more g i q new link links low is (omega (arith, le)) few),
  subst (λ (n : ℕ). AreInBlocks n link (links ++ new ∷ []) xs) (sym (after_spot g i))
      (in_longer g (suc i) q new link links xs low is (omega (arith, le)) few
      (subst (λ (n : ℕ). AreInBlocks n link links xs) (after_spot g i) are.1)),
)

-- the entries from a place on, without the first ones and with one more
module _ (d e gone : ℕ) (es : List Entry) (new : Entry) (long : e ≡ d + length es) where
  abbrev pub next_es : List Entry
  next_es = drop gone es ++ new ∷ []

  pub rest_on : (p : ℕ) → d + gone ≤ p → p ≤ e → drop (p - (d + gone)) next_es ≡ drop (p - d) es ++ new ∷ []
  rest_on p from to =
      let many = length-drop gone es in
      let sum : gone + (p - (d + gone)) ≡ p - d = omega (arith, from) in
      drop-append-le (p - (d + gone)) (drop gone es) (new ∷ []) (omega (arith, many, from, to, long))
      ∙ ap (λ (l : List Entry). l ++ new ∷ []) (drop-drop (p - (d + gone)) gone es ∙ ap (λ (n : ℕ). drop n es) sum)

  pub laid_on : (g used p : ℕ) (link : Link) (links : List Link) → d + gone ≤ p → Laid g d e used es p link links
      → Laid g (d + gone) (e + 1) (used + charge_of new.length) next_es p link links
  laid_on g used p link [] from laid = (
    laid.0,
    omega (arith, laid.1),
    let more = pages_more (drop (p - d) es) new in
        let is = ap pages_of (rest_on p from laid.1) in
        let was = laid.2 in
        omega (arith, more, is, was),
  )
  laid_on g used p link (next ∷ links) from laid =
      let (q, past, near, full, behind) = laid.2 in
      let to = laid_by g d e used es q next links behind in
      let many = length-drop (p - d) es in
      let same : take (q - p) (drop (p - (d + gone)) next_es) ≡ take (q - p) (drop (p - d) es) =
      ap (take (q - p)) (rest_on p from laid.1) ∙ take-append-le (q - p) (drop (p - d) es) (new ∷ []) (omega (arith, many, long, to, from)) in
      let pages = ap pages_of same in (
        laid.0,
        omega (arith, laid.1),
        (q, past, near, omega (arith, full, pages), laid_on g used q next links (omega (arith, from, past)) behind),
      )
