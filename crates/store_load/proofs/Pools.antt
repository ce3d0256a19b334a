-- What a new pool holds.
use Rattle.std.proofs.Common.{◌≡◌, ℕ, zero, suc, ◌+◌, ◌-◌, ◌<◌, ◌++◌, Bool, false, true, List, get_or, length, replicate, refl, ap, ◌∙◌, arith}
use Rattle.std.proofs.lemmas.List.{length-replicate}
use Rattle.block_pool.specs.Blocks.{new_pool}
use Rattle.store_load.specs.Taking.{AllAreFree}

marked : (n i : ℕ) → i < n → get_or (replicate n true) i false ≡ true
marked zero i lt = absurd (omega arith)
marked (suc n) zero lt = refl
marked (suc n) (suc i) lt = marked n i (omega arith)

behind : (n : ℕ) (marks : List Bool) (i at : ℕ) → at ≡ n + i
    → get_or (replicate n false ++ marks) at false ≡ get_or marks i false
behind zero marks i at is = ap (λ (k : ℕ). get_or marks k false) (omega (arith, is))
behind (suc n) marks i zero is = absurd (omega (arith, is))
behind (suc n) marks i (suc at) is = behind n marks i at (omega (arith, is))

-- all its data blocks are free
pub new_is_free : (blocks : ℕ) → AllAreFree (new_pool blocks)
new_is_free blocks block (low, high) =
    let count : length {A = ℕ} (replicate blocks 0) ≡ blocks = length-replicate blocks 0 in
    behind 7 (replicate (blocks - 7) true) (block - 7) block (omega (arith, low))
    ∙ marked (blocks - 7) (block - 7) (omega (arith, low, high, count))
