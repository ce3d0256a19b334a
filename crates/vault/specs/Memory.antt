-- What a vault keeps in memory, and what of it holds on every board.
use Rattle.std.specs.Prelude.{◌≡◌, ◌≤◌, ⊤, ℕ, ◌+◌, ◌&&◌, nat_le, nat_lt, Bool, true, false, List, [], ◌∷◌, length, map}
use Rattle.block_pool.specs.Blocks.{Blocks, blocks_of, is_free, is_ready}
use Rattle.meta_journal.specs.Standing as journals
use Rattle.record_view.specs.Records.{Meaning}
use Rattle.record_view.specs.declared.link.Link.{Link}
use Rattle.store_directory.specs.Directory.{IsDirectory, Listed, is_new, reserved_by}
use Rattle.store_directory.specs.Kept.{Kept}
use Rattle.store_load.specs.Claims.{all_links, block_of, may_share}
use Rattle.store_policy.specs.Shown.{AreTogether}
use Rattle.store_policy.specs.declared.view.View.{View}
use Rattle.store_put.specs.Ranges.{IsInPlace}
use Rattle.time_index.specs.TimeIndex.{TimeIndex}
use Rattle.vault.specs.declared.last_block.LastBlock.{LastBlock}

pub record InMemory : Type 0 where
  -- the directory of the stores
  pub directory : Kept
  -- of each store its index, and what is known of its last block
  pub indexes : List TimeIndex
  pub lasts : List LastBlock
  -- which blocks are free, and how worn each is
  pub pool : Blocks
  pub journal : journals.Kept
  -- how many blocks the device has
  pub blocks : ℕ
  -- the record that was fetched last
  pub held : Meaning
  pub is_open : Bool

-- P holds of each store, with the index and the last block in its place
abbrev pub EachStore : (Listed → TimeIndex → LastBlock → Type 0) → List Listed → List TimeIndex
    → List LastBlock → Type 0
EachStore P [] [] [] = ⊤
EachStore P (s ∷ stores) (index ∷ indexes) (last ∷ lasts) =
    P s index last × EachStore P stores indexes lasts
EachStore P _ _ _ = ⊥

-- A store's row and its index are those of one store, and no number or place is out of range.
pub record IsSoundStore (now : ℕ) (s : Listed) (index : TimeIndex) (last : LastBlock) : Type 0 where
  pub together : AreTogether s.row index
  pub in_place : IsInPlace now s.row s.links index last.used

-- a data block of a device of so many blocks that no store has
abbrev pub is_unlinked : (blocks : ℕ) → List Listed → (block : ℕ) → Bool
is_unlinked blocks stores block =
    nat_le 7 block && nat_lt block blocks && is_new block (map block_of (all_links stores))

-- What is in memory fits together, whether or not the board tells its flash.
pub record IsSound (vault : InMemory) : Type 0 where
  pub least : 16 ≤ vault.blocks
  pub most : vault.blocks ≤ 512
  pub kept : IsDirectory vault.directory.directory
  pub stores : EachStore (IsSoundStore vault.directory.now) vault.directory.stores vault.indexes
      vault.lasts
  pub as_many : length vault.indexes ≡ length vault.directory.stores
  -- the stores may share the device, and reserve all of its blocks but eight at most
  pub share : may_share 240 vault.blocks vault.directory.stores ≡ true
  pub reserved : reserved_by vault.directory.stores + 8 ≤ vault.blocks
  -- a block is free exactly if it is a data block that no store has
  pub pool_blocks : blocks_of vault.pool ≡ vault.blocks
  pub free : (block : ℕ) → is_free vault.pool block
      ≡ is_unlinked vault.blocks vault.directory.stores block

-- whether a store has a block
abbrev pub has_link : List Link → Bool
has_link [] = false
has_link (link ∷ links) = true

-- a store is stale exactly where it has a block
abbrev pub IsStaleStore : Listed → TimeIndex → LastBlock → Type 0
IsStaleStore s index last = last.stale ≡ has_link s.links

-- Nothing was changed since the opening, so no page is known to be clean.
pub record IsFresh (vault : InMemory) : Type 0 where
  pub is_open : vault.is_open ≡ true
  pub room : vault.journal.room ≡ 0
  pub none_ready : (block : ℕ) → is_ready vault.pool block ≡ false
  pub stale : EachStore IsStaleStore vault.directory.stores vault.indexes vault.lasts

-- What is shown of a vault.
pub record IsViewOf (view : View) (vault : InMemory) : Type 0 where
  pub directory : view.directory.now ≡ vault.directory
  pub indexes : view.indexes.now ≡ vault.indexes
  pub blocks : view.blocks ≡ vault.blocks
