-- The entries of the records of a store's last block, and those before them.
use Rattle.std.proofs.Common.{◌≡◌, ℕ, ◌+◌, List, [], ◌∷◌, ◌++◌, get_or, length, map, drop, Some, refl, sym, ◌∙◌, ap, arith, append_assoc, append-nil}
use Rattle.std.proofs.lemmas.List.Sums.{sum_by-cons}
use Rattle.std.proofs.lemmas.Option.{same_Some}
use Rattle.space_packet.specs.Charge.{charge_of}
use Rattle.record_view.specs.Records.{Meaning}
use Rattle.record_view.specs.declared.link.Link.{Link}
use Rattle.store_directory.specs.Directory.{swap_last}
use Rattle.store_directory.proofs.Steps.{some_then}
use Rattle.time_index.specs.TimeIndex.{pages_of}
use Rattle.time_index.specs.declared.entry.Entry.{Entry}
use Rattle.store_load.specs.Extents.{AreGiven, extents_from, extents_to, last_of, last_read, pages_in}
use Rattle.store_load.specs.Loaded.{placed, placed_all, seen, shown}
use Rattle.store_load.specs.Loading.{entry_at}
use Rattle.store_load.specs.Renewing.{renewed}

-- entries that list records

head_seen : (entry : Entry) (meaning : Meaning) (entries : List Entry) (records : List Meaning)
    → map seen (entry ∷ entries) ≡ map shown (meaning ∷ records) → seen entry ≡ shown meaning
head_seen entry meaning entries records same = ap (λ (l : List (ℕ × ℕ)). get_or l 0 (0, 0)) same

-- in another block
pub renewed_placed : (block page : ℕ) (entries : List Entry) (records : List Meaning) → map seen entries ≡ map shown records
    → renewed block page entries ≡ placed block page records
renewed_placed block page [] [] same = refl
renewed_placed block page [] (meaning ∷ records) same = absurd (omega (arith, ap length same))
renewed_placed block page (entry ∷ entries) [] same = absurd (omega (arith, ap length same))
renewed_placed block page (entry ∷ entries) (meaning ∷ records) same =
    let here = head_seen entry meaning entries records same in
    let long : entry.length ≡ length meaning.packet = ap (λ (x : ℕ × ℕ). x.1) here in
    (λ i. record { stamp = (here i).0; block = block; page = page; length = (here i).1 } ∷ renewed block (page + charge_of (long i)) entries)
    ∙ ap (λ (l : List Entry). entry_at block page meaning ∷ l)
    (renewed_placed block (page + charge_of (length meaning.packet)) entries records (ap (drop 1) same))

pub seen_cost : (entries : List Entry) (records : List Meaning) → map seen entries ≡ map shown records → pages_of entries ≡ pages_in records
seen_cost [] [] same = refl
seen_cost [] (meaning ∷ records) same = absurd (omega (arith, ap length same))
seen_cost (entry ∷ entries) [] same = absurd (omega (arith, ap length same))
seen_cost (entry ∷ entries) (meaning ∷ records) same =
    let here = head_seen entry meaning entries records same in
    sum_by-cons (λ (x : Entry). charge_of x.length) entry entries
    ∙ ap (λ (x : ℕ × ℕ). charge_of x.1 + pages_of entries) here
    ∙ ap (λ (n : ℕ). charge_of (length meaning.packet) + n) (seen_cost entries records (ap (drop 1) same))

pub placed_seen : (block page : ℕ) (records : List Meaning) → map seen (placed block page records) ≡ map shown records
placed_seen block page [] = refl
placed_seen block page (m ∷ records) = ap (λ (l : List (ℕ × ℕ)). shown m ∷ l) (placed_seen block (page + charge_of (length m.packet)) records)

-- the entries before the last block
abbrev pub placed_before : Link → List Link → List (List Meaning) → List Entry
placed_before link [] reads = []
placed_before link (next ∷ links) [] = []
placed_before link (next ∷ links) (records ∷ reads) = placed link.block 0 records ++ placed_before next links reads

pub placed_last : (end : ℕ) (link : Link) (links : List Link) (reads : List (List Meaning)) → AreGiven (extents_from end link links) reads
    → placed_all (extents_from end link links) reads ≡ placed_before link links reads ++ placed (last_of link links).block 0 (last_read reads)
placed_last end link [] [] given = absurd given
placed_last end link [] (records ∷ next ∷ reads) given = absurd given.1
placed_last end link [] (records ∷ []) given = append-nil (placed link.block 0 records)
placed_last end link (next ∷ links) [] given = absurd given
placed_last end link (next ∷ []) (records ∷ []) given = absurd given.1
placed_last end link (next ∷ third ∷ links) (records ∷ []) given = absurd given.1
placed_last end link (next ∷ links) (records ∷ others ∷ reads) given =
    let here = placed link.block 0 records in
    ap (λ (l : List Entry). here ++ l) (placed_last end next links (others ∷ reads) given.1)
    ∙ sym (append_assoc here (placed_before next links (others ∷ reads)) (placed (last_of next links).block 0 (last_read (others ∷ reads))))

-- links with another last one

pub record Ends (new link : Link) (links swapped : List Link) : Type 0 where
  pub head : Link
  pub tail : List Link
  pub are : swapped ≡ head ∷ tail
  pub last : last_of head tail ≡ new

pub swapped_ends : (new link : Link) (links swapped : List Link) → swap_last new (link ∷ links) ≡ Some swapped → Ends new link links swapped
swapped_ends new link [] swapped is =
    record { head = new; tail = []; are = sym (same_Some (new ∷ []) swapped is); last = refl }
swapped_ends new link (next ∷ links) swapped is =
    let (deeper, made, last) = some_then (swap_last new (next ∷ links)) (λ (l : List Link). Some (link ∷ l)) swapped is in
    let inner = swapped_ends new next links deeper made in
    record {
      head = link;
      tail = inner.head ∷ inner.tail;
      are = sym (same_Some (link ∷ deeper) swapped last) ∙ ap (λ (l : List Link). link ∷ l) inner.are;
      last = inner.last;
    }

pub placed_swapped : (end : ℕ) (new link : Link) (links swapped : List Link) (reads : List (List Meaning))
    → swap_last new (link ∷ links) ≡ Some swapped → AreGiven (extents_from end link links) reads
    → placed_all (extents_to end swapped) reads ≡ placed_before link links reads ++ placed new.block 0 (last_read reads)
placed_swapped end new link [] swapped [] is given = absurd given
placed_swapped end new link [] swapped (records ∷ next ∷ reads) is given = absurd given.1
placed_swapped end new link [] swapped (records ∷ []) is given =
    ap (λ (l : List Link). placed_all (extents_to end l) (records ∷ [])) (sym (same_Some (new ∷ []) swapped is))
    ∙ append-nil (placed new.block 0 records)
placed_swapped end new link (next ∷ links) swapped [] is given = absurd given
placed_swapped end new link (next ∷ []) swapped (records ∷ []) is given = absurd given.1
placed_swapped end new link (next ∷ third ∷ links) swapped (records ∷ []) is given = absurd given.1
placed_swapped end new link (next ∷ links) swapped (records ∷ others ∷ reads) is given =
    let (deeper, made, last) = some_then (swap_last new (next ∷ links)) (λ (l : List Link). Some (link ∷ l)) swapped is in
    let inner = swapped_ends new next links deeper made in
    let here = placed link.block 0 records in
    let shape : swapped ≡ link ∷ inner.head ∷ inner.tail = sym (same_Some (link ∷ deeper) swapped last) ∙ ap (λ (l : List Link). link ∷ l) inner.are in
    ap (λ (l : List Link). placed_all (extents_to end l) (records ∷ others ∷ reads)) shape
    ∙ ap (λ (l : List Link). here ++ placed_all (extents_to end l) (others ∷ reads)) (sym inner.are)
    ∙ ap (λ (l : List Entry). here ++ l) (placed_swapped end new next links deeper (others ∷ reads) made given.1)
    ∙ sym (append_assoc here (placed_before next links (others ∷ reads)) (placed new.block 0 (last_read (others ∷ reads))))
