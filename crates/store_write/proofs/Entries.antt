-- Entries whose records are copied one after another.
use Rattle.std.proofs.Common.{◌≡◌, ℕ, zero, suc, ◌+◌, ◌≤◌, List, [], ◌∷◌, ◌++◌}
use Rattle.std.proofs.Common.{length, take, drop, Some, refl, ◌∙◌, ap, arith}
use Rattle.std.specs.Prelude.{slice_get}
use Rattle.std.proofs.lemmas.List.Sums.{sum_by-cons}
use Rattle.std.proofs.lemmas.Option.{none-some, same_Some}
use Rattle.space_packet.specs.Charge.{charge_of}
use Rattle.time_index.specs.TimeIndex.{TimeIndex, pages_of}
use Rattle.time_index.specs.declared.entry.Entry.{Entry}
use Rattle.store_load.specs.Renewing.{renewed, renewed_part}

pages_cons : (entry : Entry) (entries : List Entry)
    → pages_of (entry ∷ entries) ≡ charge_of entry.length + pages_of entries
pages_cons entry entries = sum_by-cons (λ (e : Entry). charge_of e.length) entry entries

-- one record more
pub pages_next : (entries : List Entry) (n : ℕ) (entry : Entry) → slice_get entries n ≡ Some entry
    → pages_of (take (suc n) entries) ≡ pages_of (take n entries) + charge_of entry.length
pages_next [] n entry is = absurd (none-some entry is)
pages_next (x ∷ xs) zero entry is =
    pages_cons x [] ∙ ap (λ (e : Entry). charge_of e.length + 0) (same_Some x entry is)
    ∙ omega arith
pages_next (x ∷ xs) (suc n) entry is =
    let rest = pages_next xs n entry is in
    let more = pages_cons x (take (suc n) xs) in
    let less = pages_cons x (take n xs) in
    omega (arith, rest, more, less)

-- fewer records take no more pages
pub pages_up : (entries : List Entry) (few many : ℕ) → few ≤ many
    → pages_of (take few entries) ≤ pages_of (take many entries)
pages_up entries zero many le = omega arith
pages_up [] (suc few) zero le = absurd (omega arith)
pages_up [] (suc few) (suc many) le = omega arith
pages_up (x ∷ xs) (suc few) zero le = absurd (omega arith)
pages_up (x ∷ xs) (suc few) (suc many) le =
    let rest = pages_up xs few many (omega arith) in
    let less = pages_cons x (take few xs) in
    let more = pages_cons x (take many xs) in
    omega (arith, rest, less, more)

pub pages_all : (entries : List Entry) (n : ℕ)
    → pages_of (take n entries) ≤ pages_of entries
pages_all [] zero = omega arith
pages_all [] (suc n) = omega arith
pages_all (x ∷ xs) zero = omega arith
pages_all (x ∷ xs) (suc n) =
    let rest = pages_all xs n in
    let less = pages_cons x (take n xs) in
    let more = pages_cons x xs in
    omega (arith, rest, less, more)

-- what follows a front of a list

get_behind : {X : Type 0} (from n i : ℕ) (xs ys : List X) → from ≤ length xs → i ≡ from + n
    → slice_get (take from xs ++ ys) i ≡ slice_get ys n
get_behind zero n i xs ys le is = ap (slice_get ys) (omega (arith, is))
get_behind (suc from) n i [] ys le is = absurd (omega (arith, le))
get_behind (suc from) n zero (x ∷ xs) ys le is = absurd (omega (arith, is))
get_behind (suc from) n (suc i) (x ∷ xs) ys le is =
    get_behind from n i xs ys (omega (arith, le)) (omega (arith, is))

pub get_dropped : {X : Type 0} (from n i : ℕ) (xs : List X) → i ≡ from + n
    → slice_get (drop from xs) n ≡ slice_get xs i
get_dropped zero n i xs is = ap (slice_get xs) (omega (arith, is))
get_dropped (suc from) n i [] is = refl
get_dropped (suc from) n zero (x ∷ xs) is = absurd (omega (arith, is))
get_dropped (suc from) n (suc i) (x ∷ xs) is = get_dropped from n i xs (omega (arith, is))

-- the entries of copies, and those behind them

get_next : (block page n : ℕ) (es : List Entry)
    → slice_get (renewed block page (take n es) ++ drop n es) n ≡ slice_get es n
get_next block page zero es = refl
get_next block page (suc n) [] = refl
get_next block page (suc n) (e ∷ es) = get_next block (page + charge_of e.length) n es

long_next : (block page n : ℕ) (es : List Entry)
    → length (renewed block page (take n es) ++ drop n es) ≡ length es
long_next block page zero es = refl
long_next block page (suc n) [] = refl
long_next block page (suc n) (e ∷ es) =
    ap suc (long_next block (page + charge_of e.length) n es)

front_and : {X : Type 0} (from : ℕ) (xs ys : List X)
    → length ys ≡ length (drop from xs) → length (take from xs ++ ys) ≡ length xs
front_and zero xs ys is = is
front_and (suc from) [] ys is = is
front_and (suc from) (x ∷ xs) ys is = ap suc (front_and from xs ys is)

module _ (block from n : ℕ) (index : TimeIndex) where
  -- as many entries as before
  pub as_many : length (renewed_part from n block index).entries ≡ length index.entries
  as_many =
      let entries = index.entries in
      front_and from entries (renewed block 0 (take n (drop from entries))
      ++ drop n (drop from entries)) (long_next block 0 n (drop from entries))

  -- the next entry is still the old one
  pub next_is : (at : ℕ) → from ≤ length index.entries → at ≡ from + n
      → slice_get (renewed_part from n block index).entries at ≡ slice_get index.entries at
  next_is at le is =
      let entries = index.entries in
      get_behind from n at entries (renewed block 0 (take n (drop from entries))
      ++ drop n (drop from entries)) le is
      ∙ get_next block 0 n (drop from entries) ∙ get_dropped from n at entries is
