-- Record numbers as places behind the first one of a store's first block.
use Rattle.std.proofs.Common.{◌≡◌, ℕ, ◌+◌, ◌-◌, ◌%◌, ◌<◌, ◌≤◌, nat_lt, true, false, arith}
use Rattle.std.proofs.lemmas.Bool.Decides.{nat_tests}
use Rattle.store_directory.specs.Rows.{between, is_by}

-- the number at a place behind a first one
abbrev pub at_spot : (base place : ℕ) → ℕ
at_spot base place = (base + place) % 4294967296

pub spots_between : (g p i : ℕ) → g < 4294967296 → p ≤ i → i ≤ 500000 → between (at_spot g p) (at_spot g i) ≡ i - p
spots_between g p i low le few = omega arith

pub spots_behind : (g p i : ℕ) → g < 4294967296 → i < p → p ≤ 500000 → 2147483648 ≤ between (at_spot g p) (at_spot g i)
spots_behind g p i low lt few = omega arith

pub by_spot : (g p i : ℕ) → g < 4294967296 → p ≤ i → i ≤ 500000 → is_by (at_spot g p) (at_spot g i) ≡ true
by_spot g p i low le few =
    let is = spots_between g p i low le few in test (between (at_spot g p) (at_spot g i)) (omega (arith, is, few))
  where
    test : (n : ℕ) → n < 2147483648 → nat_lt n 2147483648 ≡ true
    test n h = grind (arith, nat_tests)

pub not_by_spot : (g p i : ℕ) → g < 4294967296 → i < p → p ≤ 500000 → is_by (at_spot g p) (at_spot g i) ≡ false
not_by_spot g p i low lt few = test (between (at_spot g p) (at_spot g i)) (spots_behind g p i low lt few)
  where
    test : (n : ℕ) → 2147483648 ≤ n → nat_lt n 2147483648 ≡ false
    test n h = grind (arith, nat_tests)

-- places add up
pub spot_on : (g p n : ℕ) → (at_spot g p + n) % 4294967296 ≡ at_spot g (p + n)
spot_on g p n = omega arith

-- the place of a number
pub spot_of : (g p x : ℕ) → g < 4294967296 → x < 4294967296 → p ≤ 400000 → x ≡ at_spot g (p + between (at_spot g p) x)
spot_of g p x low lx few = omega arith
