-- The least number that passes a test.
use Rattle.std.specs.Prelude.{◌≡◌, ◌<◌, ℕ, zero, suc, Bool, true, false, if◌then◌else◌, nat_lt, Option, Some, None}

-- the least number below the bound that passes the test, and the bound where none does
abbrev pub least : (ℕ → Bool) → (bound : ℕ) → ℕ
least test zero = zero
least test (suc bound) = if test zero then zero else suc (least (λ n. test (suc n)) bound)

-- This number passes the test, and no smaller one does.
pub record IsLeast (test : ℕ → Bool) (number : ℕ) : Type 0 where
  pub passes : test number ≡ true
  pub first : (n : ℕ) → n < number → test n ≡ false

-- the same, where one passes
abbrev pub first_below : (ℕ → Bool) → (bound : ℕ) → Option ℕ
first_below test bound = if nat_lt (least test bound) bound then Some (least test bound) else None
