-- What is in memory while an arriving packet is offered to one store after another, on every board.
use Rattle.std.specs.Prelude.{◌≡◌, ◌≤◌, ⊤, ℕ, ◌+◌, true, List, [], ◌∷◌, length, take, drop, slice_get, Some}
use Rattle.block_pool.specs.Blocks.{Blocks, IsPool, blocks_of, free_count, is_free}
use Rattle.store_directory.specs.Directory.{Directory, IsDirectory, Listed, reserved_by}
use Rattle.store_load.specs.Claims.{all_links, may_share}
use Rattle.time_index.specs.TimeIndex.{TimeIndex}
use Rattle.store_put.specs.Pools.{is_unlinked}
use Rattle.store_put.specs.Ranges.{IsInPlace}

-- each store with its index, and the pages of its last block that are in use
abbrev pub EachInPlace : (now : ℕ) → List Listed → List TimeIndex → (useds : List ℕ) → Type 0
EachInPlace now [] [] [] = ⊤
EachInPlace now (s ∷ stores) (index ∷ indexes) (used ∷ useds) =
    IsInPlace now s.row s.links index used × EachInPlace now stores indexes useds
EachInPlace now _ _ _ = ⊥

-- The index of the store at a place, and the pages of its last block that are in use.
pub record PlaceAt (now : ℕ) (indexes : List TimeIndex) (useds : List ℕ) (at : ℕ) (s : Listed)
    : Type 0 where
  pub index : TimeIndex
  pub used : ℕ
  pub here : slice_get indexes at ≡ Some index
  pub in_use : slice_get useds at ≡ Some used
  pub place : IsInPlace now s.row s.links index used

-- The blocks that stores may have taken, so many of them: what the first ones reserve, and what the
-- others have.
abbrev pub most_taken : (at : ℕ) → List Listed → ℕ
most_taken at stores = reserved_by (take at stores) + length (all_links (drop at stores))

-- The packet was offered to so many stores. `d` is the directory from before, and `next` the one now.
pub record IsWalking (blocks : ℕ) (d : Directory) (time at : ℕ) (next : Directory)
    (indexes : List TimeIndex) (useds : List ℕ) (pool : Blocks) : Type 0 where
  pub before : IsDirectory d
  pub shared : may_share 240 blocks d.stores ≡ true
  pub kept : IsDirectory next
  pub share : may_share 240 blocks next.stores ≡ true
  pub now : next.now ≡ time
  -- the stores that are left are as they were
  pub left : drop at next.stores ≡ drop at d.stores
  pub stores : EachInPlace time next.stores indexes useds
  pub lawful : IsPool pool
  pub pool_blocks : blocks_of pool ≡ blocks
  -- No store named a free block before, and none names it now: a block that leaves a store is not free
  -- before the entry is durable.
  pub unnamed_before : (block : ℕ) → is_free pool block ≡ true → is_unlinked blocks d.stores block ≡ true
  pub unnamed : (block : ℕ) → is_free pool block ≡ true → is_unlinked blocks next.stores block ≡ true
  -- and enough are free for the stores that are left
  pub enough : blocks ≤ free_count pool + 7 + most_taken at d.stores
