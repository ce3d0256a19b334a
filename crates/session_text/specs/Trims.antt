-- Lines without the blanks behind.
use Rattle.std.specs.Prelude.{◌≡◌, ◌⊎◌, ◌-◌, ◌++◌, ℕ, List, [], length, slice_index, All}
use Rattle.pst_model.specs.Fields.{IsBlank, IsSolid}

-- The rest is the line without the blanks behind.
pub record TrimsEnd (line rest : List ℕ) : Type 0 where
  pub blanks : List ℕ
  pub split : line ≡ rest ++ blanks
  pub all : All IsBlank blanks
  pub last : (rest ≡ []) ⊎ IsSolid (slice_index rest (length rest - 1))
