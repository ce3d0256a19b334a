-- Blocks of a pool while a packet is put into stores, and behind it.
use Rattle.std.specs.Prelude.{◌≡◌, ◌<◌, ℕ, ◌+◌, ◌-◌, ◌^◌, min, Bool, true, false, not, ◌&&◌, nat_le, nat_lt, if◌then◌else◌, set, List, map, Result, IfOk, OnOk}
use Rattle.block_pool.specs.Blocks.{Blocks, IsData, blocks_of, is_free, is_ready, wear_of}
use Rattle.board.specs.Flash.{pages_of_block}
use Rattle.board.specs.Meaning.{BoardMeaning}
use Rattle.board.specs.Touches.{Touches}
use Rattle.chain_log.specs.Tails.{Filling}
use Rattle.record_view.specs.declared.link.Link.{Link}
use Rattle.store_directory.specs.Directory.{Listed, is_new}
use Rattle.store_load.specs.Claims.{all_links, block_of}

-- A block that was free is neither free nor ready any more, and no other one changed.
pub record IsTaken (old new : Blocks) (block : ℕ) : Type 0 where
  pub was_free : is_free old block ≡ true
  pub own : IsData old block
  pub free : new.free ≡ set old.free block false
  pub ready : new.ready ≡ set old.ready block false

-- the erase counts of a pool, once a block that was not ready was erased
abbrev pub wear_begun : (pool : Blocks) → (block : ℕ) → List ℕ
wear_begun pool block =
    if is_ready pool block then pool.wear
    else set pool.wear block (min (wear_of pool block + 1) (2 ^ 32 - 1))

-- A block is taken and begun, with one erase and one barrier at most. Only its pages are touched,
-- also where a call failed.
pub record BeginsBlock {B E : Type 0} (means : BoardMeaning B) (old_pool new_pool : Blocks) (old new : B)
    (result : Result Filling E) : Type 0 where
  pub block : ℕ
  pub taken : IsTaken old_pool new_pool block
  pub many : blocks_of new_pool ≡ blocks_of old_pool
  pub wear : OnOk result (new_pool.wear ≡ wear_begun old_pool block)
  pub tail : IfOk result (λ tail. tail ≡ record { block = block; used = 0 })
  pub touches : Touches means (pages_of_block block) 0 1 1 old new

-- a link's block is below this one
abbrev pub IsBelow : (blocks : ℕ) → Link → Type 0
IsBelow blocks link = link.block < blocks

-- links name this block
abbrev pub is_named : (block : ℕ) → List Link → Bool
is_named block links = not (is_new block (map block_of links))

-- a data block of a device of so many blocks that no store names
abbrev pub is_unlinked : (blocks : ℕ) → List Listed → (block : ℕ) → Bool
is_unlinked blocks stores block =
    nat_le 7 block && nat_lt block blocks && is_new block (map block_of (all_links stores))
