-- The entries of a last block that move one after another.
use Rattle.std.proofs.Common.{◌≡◌, ℕ, zero, suc, ◌+◌, ◌≤◌, List, [], ◌∷◌, ◌++◌, length, drop, take, Some, refl, sym, ◌∙◌, ap, arith, append-nil, length-drop}
use Rattle.std.specs.Prelude.{slice_get, slice_set}
use Rattle.std.proofs.lemmas.List.{drop_all, take_all, take-append-drop}
use Rattle.std.proofs.lemmas.List.Sums.{sum_by-cons}
use Rattle.std.proofs.lemmas.Option.{none-some, same_Some}
use Rattle.space_packet.specs.Charge.{charge_of}
use Rattle.time_index.specs.TimeIndex.{TimeIndex, pages_of, with_entry_at}
use Rattle.time_index.specs.declared.entry.Entry.{Entry}
use Rattle.store_load.specs.Renewing.{renewed, renewed_from, renewed_part}

-- one more of the first ones
one_moved : (block page count : ℕ) (entries : List Entry) (entry : Entry) → slice_get entries count ≡ Some entry
    → slice_set (renewed block page (take count entries) ++ drop count entries) count (record entry { block = block; page = page + pages_of (take count entries) })
    ≡ renewed block page (take (suc count) entries) ++ drop (suc count) entries
one_moved block page count [] entry is = absurd (none-some entry is)
one_moved block page zero (x ∷ entries) entry is =
    let same : entry ≡ x = sym (same_Some x entry is) in
    let here : page + 0 ≡ page = omega arith in
    λ i. record (same i) { block = block; page = here i } ∷ entries
one_moved block page (suc count) (x ∷ entries) entry is =
    let cost = charge_of x.length in
    let sum : page + pages_of (x ∷ take count entries) ≡ page + cost + pages_of (take count entries) =
    omega (arith, sum_by-cons (λ (e : Entry). charge_of e.length) x (take count entries)) in
    ap (λ (n : ℕ). record x { block = block; page = page } ∷ slice_set (renewed block (page + cost) (take count entries) ++ drop count entries) count (record entry { block = block; page = n })) sum
    ∙ ap (λ (l : List Entry). record x { block = block; page = page } ∷ l) (one_moved block (page + cost) count entries entry is)

-- behind the others

set_behind : (front : List Entry) (n : ℕ) (others : List Entry) (entry : Entry) (at : ℕ) → at ≡ length front + n
    → slice_set (front ++ others) at entry ≡ front ++ slice_set others n entry
set_behind [] n others entry at is = ap (λ (k : ℕ). slice_set others k entry) (omega (arith, is))
set_behind (x ∷ front) n others entry zero is = absurd (omega (arith, is))
set_behind (x ∷ front) n others entry (suc at) is =
    ap (λ (l : List Entry). x ∷ l) (set_behind front n others entry at (omega (arith, is)))

get_behind : (position : ℕ) (entries : List Entry) (n at : ℕ) (entry : Entry) → at ≡ position + n → slice_get entries at ≡ Some entry
    → slice_get (drop position entries) n ≡ Some entry
get_behind zero entries n at entry is got = ap (slice_get entries) (omega (arith, is)) ∙ got
get_behind (suc position) [] n at entry is got = absurd (none-some entry got)
get_behind (suc position) (x ∷ entries) n zero entry is got = absurd (omega (arith, is))
get_behind (suc position) (x ∷ entries) n (suc at) entry is got = get_behind position entries n at entry (omega (arith, is)) got

front_long : (position : ℕ) (entries : List Entry) (at : ℕ) (entry : Entry) → position ≤ at → slice_get entries at ≡ Some entry → length (take position entries) ≡ position
front_long zero entries at entry le got = refl
front_long (suc position) [] at entry le got = absurd (none-some entry got)
front_long (suc position) (x ∷ entries) zero entry le got = absurd (omega (arith, le))
front_long (suc position) (x ∷ entries) (suc at) entry le got = ap suc (front_long position entries at entry (omega (arith, le)) got)

pub none_renewed : (position block : ℕ) (index : TimeIndex) → renewed_part position 0 block index ≡ index
none_renewed position block index = ap (λ (l : List Entry). record index { entries = l }) (take-append-drop position index.entries)

pub next_renewed : (position count block : ℕ) (index : TimeIndex) (entry : Entry) → slice_get index.entries (position + count) ≡ Some entry
    → with_entry_at (renewed_part position count block index) (position + count)
    (record entry { block = block; page = pages_of (take count (drop position index.entries)) })
    ≡ renewed_part position (count + 1) block index
next_renewed position count block index entry got =
    let front = take position index.entries in
    let behind = drop position index.entries in
    let others = renewed block 0 (take count behind) ++ drop count behind in
    let new : Entry = record entry { block = block; page = pages_of (take count behind) } in
    let long = front_long position index.entries (position + count) entry (omega arith) got in
    let start : pages_of (take count behind) ≡ 0 + pages_of (take count behind) = omega arith in
    let one : suc count ≡ count + 1 = omega arith in
    ap (λ (l : List Entry). record index { entries = l })
    (set_behind front count others new (position + count) (omega (arith, long))
    ∙ ap (λ (n : ℕ). front ++ slice_set others count (record entry { block = block; page = n })) start
    ∙ ap (λ (l : List Entry). front ++ l)
    (one_moved block 0 count behind entry (get_behind position index.entries count (position + count) entry refl got))
    ∙ ap (λ (n : ℕ). front ++ (renewed block 0 (take n behind) ++ drop n behind)) one)

pub all_renewed : (position count block : ℕ) (index : TimeIndex) → length index.entries ≤ position + count
    → renewed_part position count block index ≡ renewed_from position block index
all_renewed position count block index few =
    let behind = drop position index.entries in
    let short : length behind ≤ count = omega (arith, length-drop position index.entries, few) in
    ap (λ (l : List Entry). record index { entries = take position index.entries ++ l })
    ((λ i. renewed block 0 (take_all count behind short i) ++ drop_all count behind short i) ∙ append-nil (renewed block 0 behind))
