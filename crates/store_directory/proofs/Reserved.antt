-- The blocks that stores reserve, store by store.
use Rattle.std.proofs.Common.{◌≡◌, ℕ, zero, suc, ◌+◌, ◌<◌, ◌≤◌, List, [], ◌∷◌, ◌++◌, length, drop, sym, ap, arith}
use Rattle.std.specs.Prelude.{IfSome, slice_get}
use Rattle.block_pool.specs.Sizes.{blocks_for_size}
use Rattle.store_directory.specs.Directory.{Listed, reserved_by}
use Rattle.store_directory.specs.declared.row.Row.{Row}

-- the store at a place, before those behind it
pub reserved-at : (stores : List Listed) (at : ℕ) (row : Row) → at < length stores → IfSome (slice_get stores at) (λ s. row ≡ s.row)
    → reserved_by (drop at stores) ≡ blocks_for_size row.size + reserved_by (drop (suc at) stores)
reserved-at [] at row within is = absurd (omega arith)
reserved-at (s ∷ stores) zero row within is = ap (λ (r : Row). blocks_for_size r.size + reserved_by stores) (sym is)
reserved-at (s ∷ stores) (suc at) row within is = reserved-at stores at row (omega arith) is

pub reserved-append : (front back : List Listed) → reserved_by (front ++ back) ≡ reserved_by front + reserved_by back
reserved-append [] back = omega arith
reserved-append (s ∷ front) back = omega (arith, reserved-append front back)

pub reserved-pushed : (stores : List Listed) (s : Listed) → reserved_by (stores ++ s ∷ []) ≡ reserved_by stores + blocks_for_size s.size
reserved-pushed stores s = omega (arith, reserved-append stores (s ∷ []))

pub reserved-drop : (stores : List Listed) (at : ℕ) → reserved_by (drop at stores) ≤ reserved_by stores
reserved-drop [] zero = omega arith
reserved-drop [] (suc at) = omega arith
reserved-drop (s ∷ stores) zero = omega arith
reserved-drop (s ∷ stores) (suc at) = omega (arith, reserved-drop stores at)

-- the blocks of one store are among those of all
pub reserved-one : (stores : List Listed) (at : ℕ) (row : Row) → at < length stores → IfSome (slice_get stores at) (λ s. row ≡ s.row) → blocks_for_size row.size ≤ reserved_by stores
reserved-one stores at row within is = omega (arith, reserved-at stores at row within is, reserved-drop stores at)
