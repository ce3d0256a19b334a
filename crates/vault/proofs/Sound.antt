-- What is loaded of stores fits together.
use Rattle.std.proofs.Common.{◌≡◌, ℕ, ◌≤◌, true, List, ◌++◌, length, take, ◌∙◌, ap, arith}
use Rattle.std.proofs.lemmas.List.{take-append-le}
use Rattle.block_pool.specs.Blocks.{blocks_of, is_free}
use Rattle.store_directory.specs.Directory.{IsDirectory}
use Rattle.store_load.specs.Claims.{may_share}
use Rattle.vault.proofs.EachStores.{as_many_indexes, each_gives}
use Rattle.vault.proofs.Places.{take_whole}
use Rattle.vault.proofs.Tables.{shared_parts}
use Rattle.vault.specs.Loading.{IsLoadedStore}
use Rattle.vault.specs.Memory.{EachStore, InMemory, IsSound, IsSoundStore, is_unlinked}

pub sound_of : (told : Type 0) (image : ℕ → List ℕ) (vault : InMemory) → 16 ≤ vault.blocks → vault.blocks ≤ 512 → IsDirectory vault.directory.directory
    → EachStore (IsLoadedStore told image vault.directory.now) vault.directory.stores vault.indexes vault.lasts
    → may_share 240 vault.blocks vault.directory.stores ≡ true → blocks_of vault.pool ≡ vault.blocks
    → ((block : ℕ) → is_free vault.pool block ≡ is_unlinked vault.blocks vault.directory.stores block) → IsSound vault
sound_of told image vault least most kept stores share pool free =
    let now = vault.directory.now in
    record {
      least = least;
      most = most;
      kept = kept;
      stores =
          each_gives (IsLoadedStore told image now) (IsSoundStore now)
          (λ s index last loaded.
          let range = loaded.in_place.in_range in
          record { together = record { first = range.first; count = range.count; size = range.size }; in_place = loaded.in_place })
          vault.directory.stores vault.indexes vault.lasts stores;
      as_many = as_many_indexes (IsLoadedStore told image now) vault.directory.stores vault.indexes vault.lasts stores;
      share = share;
      reserved = (shared_parts vault.blocks vault.directory.stores share).0;
      pool_blocks = pool;
      free = free;
    }

-- a buffer keeps its length
pub kept_length : {X : Type 0} (n : ℕ) (xs ys : List X) → length xs ≡ n → length (take n (xs ++ ys)) ≡ n
kept_length n xs ys is = ap length (take-append-le n xs ys (omega (arith, is)) ∙ take_whole xs n (omega (arith, is))) ∙ is
