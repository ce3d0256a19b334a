-- Octets that were taken from a source.
use Rattle.std.specs.Prelude.{◌≡◌, ◌++◌, ◌↔◌, ℕ, Bool, [], List, length, IsTrue}

-- New is old with so many octets behind it, taken from the front of what was left. None are at the end.
pub record Gains (old new : List ℕ) (count : ℕ) (told : Bool) (left_before left_after : List ℕ) : Type 0 where
  pub gained : List ℕ
  pub size : length gained ≡ count
  pub behind : new ≡ old ++ gained
  pub taken : IsTrue told → left_before ≡ gained ++ left_after
  pub end : IsTrue told → (count ≡ 0) ↔ (left_before ≡ [])
