-- How many blocks of a pool are free at least.
use Rattle.std.proofs.Common.{◌≡◌, ℕ, zero, suc, ◌+◌, ◌<◌, ◌≤◌, ◌==◌, ◌&&◌, not, nat_le, nat_lt, cond, Bool, true, false, List, [], ◌∷◌, length, map, get_or, set, refl, sym, ◌∙◌, ap, subst, arith, eqb-true, eq-eqb}
use Rattle.std.specs.Prelude.{count_by}
use Rattle.std.proofs.lemmas.Bool.{and_from, false≢true}
use Rattle.std.proofs.lemmas.Bool.Decides.{nat_tests}
use Rattle.std.proofs.lemmas.List.{get_or-set_other, get_or-set_same, length-map, length-set}
use Rattle.std.proofs.lemmas.List.Sums.{sum_by-cons}
use Rattle.block_pool.specs.Blocks.{Blocks, IsPool, blocks_of, free_count, is_free}
use Rattle.store_directory.specs.Directory.{Listed, is_new}
use Rattle.store_load.specs.Claims.{all_links, block_of}
use Rattle.store_put.specs.Pools.{IsTaken, is_unlinked}

abbrev one : Bool → ℕ
one b = cond b 1 0

abbrev count : List Bool → ℕ
count xs = count_by (λ (b : Bool). b) xs

count_cons : (x : Bool) (xs : List Bool) → count (x ∷ xs) ≡ one x + count xs
count_cons x xs = sum_by-cons one x xs

at_most_one : (b : Bool) → one b ≤ 1
at_most_one true = omega arith
at_most_one false = omega arith

-- one mark more
count_marked : (xs : List Bool) (i : ℕ) → count (set xs i true) ≤ count xs + 1
count_marked [] i = omega arith
count_marked (x ∷ xs) zero = let new = count_cons true xs in let old = count_cons x xs in omega (arith, new, old)
count_marked (x ∷ xs) (suc i) =
    let new = count_cons x (set xs i true) in let old = count_cons x xs in omega (arith, new, old, count_marked xs i)

-- one mark fewer
count_cleared : (xs : List Bool) (i : ℕ) → i < length xs → get_or xs i false ≡ true → count xs ≡ count (set xs i false) + 1
count_cleared [] i within is = absurd (omega (arith, within))
count_cleared (x ∷ xs) zero within is =
    let new = count_cons false xs in let old = count_cons x xs in let marked = ap one is in omega (arith, new, old, marked)
count_cleared (x ∷ xs) (suc i) within is =
    let new = count_cons x (set xs i false) in let old = count_cons x xs in
    omega (arith, new, old, count_cleared xs i (omega (arith, within)) is)

all_marked : (xs : List Bool) (low : ℕ) → ((i : ℕ) → i < length xs → low ≤ i → get_or xs i false ≡ true) → length xs ≤ count xs + low
all_marked [] low marked = omega arith
all_marked (x ∷ xs) zero marked =
    let here = ap one (marked 0 (omega arith) (omega arith)) in
    let sum = count_cons x xs in
    omega (arith, here, sum, all_marked xs zero (λ i within from. marked (suc i) (omega (arith, within)) (omega arith)))
all_marked (x ∷ xs) (suc low) marked =
    let sum = count_cons x xs in
    omega (arith, sum, all_marked xs low (λ i within from. marked (suc i) (omega (arith, within)) (omega (arith, from))))

-- all but the first ones and some are marked
most_marked : (names : List ℕ) (xs : List Bool) (low : ℕ)
    → ((i : ℕ) → i < length xs → low ≤ i → is_new i names ≡ true → get_or xs i false ≡ true) → length xs ≤ count xs + low + length names
most_marked [] xs low marked = omega (arith, all_marked xs low (λ i within from. marked i within from refl))
most_marked (name ∷ names) xs low marked =
    let long = length-set xs name true in
    let rest = most_marked names (set xs name true) low
    (λ i within from new. pick i (omega (arith, within, long)) from new (i == name) refl) in
    omega (arith, rest, long, count_marked xs name)
  where
    pick : (i : ℕ) → i < length xs → low ≤ i → is_new i names ≡ true → (b : Bool) → (i == name) ≡ b → get_or (set xs name true) i false ≡ true
    pick i within from new true same =
        let is = eqb-true i name same in
        ap (λ (n : ℕ). get_or (set xs name true) n false) is
        ∙ get_or-set_same xs name true false (subst (λ (n : ℕ). n < length xs) is within)
    pick i within from new false other =
        get_or-set_other xs name i true false (λ equal. false≢true (sym other ∙ eq-eqb i name equal))
        ∙ marked i within from (and_from (not (i == name)) (is_new i names) (ap not other) new)

-- each data block is free that no store names
pub free_at_least : (pool : Blocks) (stores : List Listed) → IsPool pool
    → ((block : ℕ) → is_unlinked (blocks_of pool) stores block ≡ true → is_free pool block ≡ true)
    → blocks_of pool ≤ free_count pool + 7 + length (all_links stores)
free_at_least pool stores lawful free =
    let many = most_marked (map block_of (all_links stores)) pool.free 7
    (λ i within from new. free i (unlinked i from (omega (arith, within, lawful.free_marks)) new)) in
    let named = length-map (all_links stores) block_of in
    omega (arith, many, named, lawful.free_marks)
  where
    unlinked : (i : ℕ) → 7 ≤ i → i < blocks_of pool → is_new i (map block_of (all_links stores)) ≡ true → is_unlinked (blocks_of pool) stores i ≡ true
    unlinked i from to new =
        and_from (nat_le 7 i && nat_lt i (blocks_of pool)) (is_new i (map block_of (all_links stores)))
        (and_from (nat_le 7 i) (nat_lt i (blocks_of pool)) (low i from) (high i (blocks_of pool) to)) new
      where
        low : (i : ℕ) → 7 ≤ i → nat_le 7 i ≡ true
        low i h = grind (arith, nat_tests)

        high : (i n : ℕ) → i < n → nat_lt i n ≡ true
        high i n h = grind (arith, nat_tests)

-- one fewer is free behind a block that was taken
pub one_fewer : (old new : Blocks) (block : ℕ) → IsPool old → IsTaken old new block → free_count old ≡ free_count new + 1
one_fewer old new block lawful taken =
    count_cleared old.free block (omega (arith, taken.own.1, lawful.free_marks)) taken.was_free
    ∙ ap (λ (l : List Bool). count l + 1) (sym taken.free)
