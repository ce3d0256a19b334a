-- What lies in memory of the stores, while the instructions of a request change them.
use Rattle.std.specs.Prelude.{◌≡◌, ℕ, zero, suc, true, false, List, length, map}
use Rattle.board.specs.Flash.{Flash, IsContent}
use Rattle.control_defs.specs.declared.instructions.Instruction.{Instruction}
use Rattle.control_defs.specs.declared.instructions.Instruction.TheVariants.{DeleteUpTo, Remove}
use Rattle.image_table.specs.Table.{in_records}
use Rattle.request_laws.specs.Changing.{changed_for, deleted_index, index_for, without_for}
use Rattle.store_directory.specs.Directory.{Directory, is_new}
use Rattle.store_load.specs.Claims.{all_links, block_of}
use Rattle.time_index.specs.TimeIndex.{TimeIndex}
use Rattle.vault.specs.Memory.{EachStore, InMemory, IsSoundStore}
use Rattle.vault.specs.Standing.{IsStoreOf}
use Rattle.vault.specs.declared.last_block.LastBlock.{LastBlock}

-- the directory, and of each store its index, and what is known of its last block
pub record Stores : Type 0 where
  pub directory : Directory
  pub indexes : List TimeIndex
  pub lasts : List LastBlock

abbrev pub stores_of : InMemory → Stores
stores_of vault = record {
  directory = vault.directory.directory;
  indexes = vault.indexes;
  lasts = vault.lasts;
}

-- the last block of a store that has so many packets left: none without a packet
abbrev pub last_for : (count : ℕ) → LastBlock → LastBlock
last_for zero last = record { used = 0; stale = false }
last_for (suc count) last = last

-- the last blocks of the stores behind the change of an instruction
abbrev pub lasts_by : Directory → List TimeIndex → List LastBlock → Instruction → List LastBlock
lasts_by d indexes lasts (DeleteUpTo store t) =
    changed_for store (last_for (length (deleted_index t (index_for store d.stores indexes)).entries))
    d.stores lasts
lasts_by d indexes lasts (Remove store) = without_for store d.stores lasts
lasts_by d indexes lasts _ = lasts

-- Stores that went on from others: what fitted together still does, and what was so of the flash still
-- is. No page and no block is theirs that was not.
pub record HasMoved (blocks : ℕ) (old new : Stores) : Type 0 where
  pub sound : (now : ℕ) → EachStore (IsSoundStore now) old.directory.stores old.indexes old.lasts
      → EachStore (IsSoundStore now) new.directory.stores new.indexes new.lasts
  pub places : (flash : Flash) (now : ℕ) → IsContent blocks flash.content
      → EachStore (IsStoreOf flash now) old.directory.stores old.indexes old.lasts
      → EachStore (IsStoreOf flash now) new.directory.stores new.indexes new.lasts
  pub pages : (image : ℕ → List ℕ) (p : ℕ) → in_records image p new.directory ≡ true
      → in_records image p old.directory ≡ true
  pub unlinked : (block : ℕ) → is_new block (map block_of (all_links old.directory.stores)) ≡ true
      → is_new block (map block_of (all_links new.directory.stores)) ≡ true
