-- A store whose last block was renewed: no number, place or length of it is out of range.
use Rattle.std.proofs.Common.{◌≡◌, ℕ, zero, suc, ◌+◌, ◌%◌, ◌<◌, ◌≤◌}
use Rattle.std.proofs.Common.{List, [], ◌∷◌, ◌++◌, All, get_or, length, map, take, drop, Some, refl, sym, ◌∙◌}
use Rattle.std.proofs.Common.{ap, subst, arith}
use Rattle.std.proofs.lemmas.List.{drop-map, take-map}
use Rattle.std.proofs.lemmas.List.Elements.{All-cons, All-head, All-nil, All-tail}
use Rattle.std.proofs.lemmas.List.Sums.{sum_by-cons}
use Rattle.std.proofs.lemmas.Option.{same_Some}
use Rattle.record_view.specs.Records.{number_after}
use Rattle.record_view.specs.declared.link.Link.{Link}
use Rattle.space_packet.specs.Charge.{charge_of}
use Rattle.store_directory.specs.Directory.{swap_last}
use Rattle.store_directory.specs.Rows.{between, is_by}
use Rattle.store_directory.proofs.Steps.{some_then}
use Rattle.store_load.specs.Extents.{last_of}
use Rattle.store_load.specs.InRange.{AreAscending, AreFull, AreInBlocks, IsPlaced, block_for, entries_between}
use Rattle.store_load.specs.Renewing.{renewed}
use Rattle.store_load.specs.declared.rule.Rule.{Rule}
use Rattle.time_index.specs.TimeIndex.{pages_of}
use Rattle.time_index.specs.declared.entry.Entry.{Entry}

-- entries of the same lengths take the same pages

abbrev pub lengths : List Entry → List ℕ
lengths entries = map (λ (e : Entry). e.length) entries

pub same_pages : (xs ys : List Entry) → lengths xs ≡ lengths ys → pages_of xs ≡ pages_of ys
same_pages [] [] same = refl
same_pages [] (y ∷ ys) same = absurd (omega (arith, ap length same))
same_pages (x ∷ xs) [] same = absurd (omega (arith, ap length same))
same_pages (x ∷ xs) (y ∷ ys) same =
    let here : x.length ≡ y.length = ap (λ (l : List ℕ). get_or l 0 0) same in
    let rest = same_pages xs ys (ap (drop 1) same) in
    sum_by-cons (λ (e : Entry). charge_of e.length) x xs
    ∙ (λ i. charge_of (here i) + rest i)
    ∙ sym (sum_by-cons (λ (e : Entry). charge_of e.length) y ys)

pub renewed_lengths : (block page : ℕ) (entries : List Entry)
    → lengths (renewed block page entries) ≡ lengths entries
renewed_lengths block page [] = refl
renewed_lengths block page (e ∷ entries) =
    ap (λ (l : List ℕ). e.length ∷ l) (renewed_lengths block (page + charge_of e.length) entries)

-- the copies lie in the block, one behind the other
pub placed_renewed : (rule : Rule) (now block page : ℕ) (entries : List Entry)
    → All (IsPlaced rule now) entries → page + pages_of entries ≤ 256
    → All (IsPlaced rule now) (renewed block page entries)
placed_renewed rule now block page [] all fits = All-nil (IsPlaced rule now)
placed_renewed rule now block page (e ∷ entries) all fits =
    let P = IsPlaced rule now in
    let here = All-head P e entries all in
    let cost = sum_by-cons (λ (x : Entry). charge_of x.length) e entries in
    All-cons P (record e { block = block; page = page })
    (renewed block (page + charge_of e.length) entries)
    (record {
      stamp = here.stamp;
      shortest = here.shortest;
      longest = here.longest;
      within = omega (arith, cost, fits);
    })
    (placed_renewed rule now block (page + charge_of e.length) entries
    (All-tail P e entries all) (omega (arith, cost, fits)))

after : (f i : ℕ) → number_after ((f + i) % 4294967296) ≡ (f + suc i) % 4294967296
after f i = omega arith

-- the entries in the blocks of links, one run behind the other
pub in_both : (first i : ℕ) (link : Link) (links : List Link) (xs ys : List Entry)
    → AreInBlocks ((first + i) % 4294967296) link links xs
    → AreInBlocks ((first + (i + length xs)) % 4294967296) link links ys
    → AreInBlocks ((first + i) % 4294967296) link links (xs ++ ys)
in_both first i link links [] ys front back =
    let same : first + (i + 0) ≡ first + i = omega arith in
    subst (λ (n : ℕ). AreInBlocks (n % 4294967296) link links ys) same back
in_both first i link links (x ∷ xs) ys front back =
    let same : first + (i + suc (length xs)) ≡ first + (suc i + length xs) = omega arith in (
      front.0,
      subst (λ (n : ℕ). AreInBlocks n link links (xs ++ ys)) (sym (after first i))
          (in_both first (suc i) link links xs ys
          (subst (λ (n : ℕ). AreInBlocks n link links xs) (after first i) front.1)
          (subst (λ (n : ℕ). AreInBlocks (n % 4294967296) link links ys) same back)),
    )

pub in_front : (most number : ℕ) (link : Link) (links : List Link) (entries : List Entry)
    → AreInBlocks number link links entries → AreInBlocks number link links (take most entries)
in_front zero number link links entries all = tt
in_front (suc most) number link links [] all = tt
in_front (suc most) number link links (e ∷ entries) all =
    (all.0, in_front most (number_after number) link links entries all.1)

-- the copies, in a last block that holds each number from one on
pub renewed_in : (first i block page : ℕ) (link : Link) (links : List Link) (entries : List Entry)
    → ((j : ℕ) → i ≤ j → j < i + length entries
    → block_for ((first + j) % 4294967296) link links ≡ block)
    → AreInBlocks ((first + i) % 4294967296) link links (renewed block page entries)
renewed_in first i block page link links [] is = tt
renewed_in first i block page link links (e ∷ entries) is = (
  sym (is i (omega arith) (omega arith)),
  subst (λ (n : ℕ). AreInBlocks n link links
      (renewed block (page + charge_of e.length) entries)) (sym (after first i))
      (renewed_in first (suc i) block (page + charge_of e.length) link links entries
      (λ j low high. is j (omega (arith, low)) (omega (arith, high)))),
)

-- those in front of it lie where they lay
pub same_in : (first i : ℕ) (link : Link) (links others : List Link) (entries : List Entry)
    → ((j : ℕ) → i ≤ j → j < i + length entries → block_for ((first + j) % 4294967296) link others
    ≡ block_for ((first + j) % 4294967296) link links)
    → AreInBlocks ((first + i) % 4294967296) link links entries
    → AreInBlocks ((first + i) % 4294967296) link others entries
same_in first i link links others [] is all = tt
same_in first i link links others (e ∷ entries) is all = (
  all.0 ∙ sym (is i (omega arith) (omega arith)),
  subst (λ (n : ℕ). AreInBlocks n link others entries) (sym (after first i))
      (same_in first (suc i) link links others entries
      (λ j low high. is j (omega (arith, low)) (omega (arith, high)))
      (subst (λ (n : ℕ). AreInBlocks n link links entries) (after first i) all.1)),
)

-- links with another last one of the same first number
pub record Alike (new link : Link) (links swapped : List Link) : Type 0 where
  pub head : Link
  pub tail : List Link
  pub are : swapped ≡ head ∷ tail
  pub same : head.first ≡ link.first

pub alike : (new link : Link) (links swapped : List Link) → swap_last new (link ∷ links) ≡ Some swapped
    → new.first ≡ (last_of link links).first → Alike new link links swapped
alike new link [] swapped is same =
    record { head = new; tail = []; are = sym (same_Some (new ∷ []) swapped is); same = same }
alike new link (next ∷ links) swapped is same =
    let (deeper, made, last) = some_then (swap_last new (next ∷ links))
    (λ (l : List Link). Some (link ∷ l)) swapped is in
    record {
      head = link;
      tail = deeper;
      are = sym (same_Some (link ∷ deeper) swapped last);
      same = refl;
    }

pub ascending_swapped : (new link next : Link) (links swapped : List Link)
    → swap_last new (next ∷ links) ≡ Some swapped → new.first ≡ (last_of next links).first
    → AreAscending link (next ∷ links) → AreAscending link swapped
ascending_swapped new link next [] swapped is same up =
    subst (AreAscending link) (same_Some (new ∷ []) swapped is)
    (ap (λ (n : ℕ). is_by n link.first) same ∙ up.0, tt)
ascending_swapped new link next (third ∷ links) swapped is same up =
    let (deeper, made, last) = some_then (swap_last new (third ∷ links))
    (λ (l : List Link). Some (next ∷ l)) swapped is in
    subst (AreAscending link) (same_Some (next ∷ deeper) swapped last)
    (up.0, ascending_swapped new next third links deeper made same up.1)

-- the blocks are as full as they were
module _ (least first used pages : ℕ) (entries others : List Entry)
    (same : lengths others ≡ lengths entries) where
  between_same : (from to : ℕ) → pages_of (entries_between first from to others)
      ≡ pages_of (entries_between first from to entries)
  between_same from to =
      let n = between from to in
      let k = between first from in
      same_pages (take n (drop k others)) (take n (drop k entries))
      (cut others ∙ ap (λ (l : List ℕ). take n (drop k l)) same ∙ sym (cut entries))
    where
      cut : (es : List Entry)
          → lengths (take (between from to) (drop (between first from) es))
          ≡ take (between from to) (drop (between first from) (lengths es))
      cut es =
          sym (take-map (λ (e : Entry). e.length) (between from to) (drop (between first from) es))
          ∙ ap (take (between from to)) (sym (drop-map (λ (e : Entry). e.length)
          (between first from) es))

  pub full_swapped : (new link : Link) (links : List Link) (head : Link) (tail : List Link)
      → swap_last new (link ∷ links) ≡ Some (head ∷ tail)
      → new.first ≡ (last_of link links).first
      → pages ≡ pages_of (drop (between first new.first) others)
      → AreFull least first used link links entries → AreFull least first pages head tail others
  full_swapped new link [] head tail is last takes full =
      subst (λ (l : List Link). ByLinks l) (same_Some (new ∷ []) (head ∷ tail) is) takes
    where
      ByLinks : List Link → Type 0
      ByLinks [] = Unit {0}
      ByLinks (a ∷ rest) = AreFull least first pages a rest others
  full_swapped new link (next ∷ links) head tail is last takes full =
      let (deeper, made, end) = some_then (swap_last new (next ∷ links))
      (λ (l : List Link). Some (link ∷ l)) (head ∷ tail) is in
      let inner = alike new next links deeper made last in
      let made_too = made ∙ ap Some inner.are in
      let rest = full_swapped new next links inner.head inner.tail made_too last takes full.1 in
      let cost = between_same link.first next.first in
      let here : least ≤ pages_of (entries_between first link.first inner.head.first others) =
      subst (λ (n : ℕ). least ≤ pages_of (entries_between first link.first n others))
      (sym inner.same) (omega (arith, full.0, cost)) in
      subst (λ (l : List Link). ByLinks l)
      (ap (λ (l : List Link). link ∷ l) (sym inner.are)
      ∙ same_Some (link ∷ deeper) (head ∷ tail) end) (here, rest)
    where
      ByLinks : List Link → Type 0
      ByLinks [] = Unit {0}
      ByLinks (a ∷ rest) = AreFull least first pages a rest others
