-- The free block that was erased least.
use Rattle.std.specs.Prelude.{◌≡◌, ◌<◌, ◌≤◌, ◌⊎◌, ℕ, Bool, true, false, List, get_or, Option, Some, None}

-- Of the free blocks below a number, this one has the least count, and the lowest number among
-- those with that count.
pub record IsLeast (free : List Bool) (wear : List ℕ) (below block : ℕ) : Type 0 where
  pub within : block < below
  pub free_is : get_or free block false ≡ true
  pub least : (other : ℕ) → other < below → get_or free other false ≡ true
      → (get_or wear block 0 < get_or wear other 0)
      ⊎ ((get_or wear other 0 ≡ get_or wear block 0) × (block ≤ other))

-- the block was erased less often than the one found before, if any
abbrev pub IsBetter : List ℕ → ℕ → Option ℕ → Type 0
IsBetter wear block None = Unit {0}
IsBetter wear block (Some best) = get_or wear block 0 < get_or wear best 0

-- what was found among the blocks below a number
abbrev pub IsLeastSoFar : List Bool → List ℕ → ℕ → Option ℕ → Type 0
IsLeastSoFar free wear below None = (other : ℕ) → other < below → get_or free other false ≡ false
IsLeastSoFar free wear below (Some best) = IsLeast free wear below best
