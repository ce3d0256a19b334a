-- A vault that stands for a table of a flash.
use Rattle.std.specs.Prelude.{◌≡◌, ⊤, ℕ, true, false, List, [], ◌∷◌, Some}
use Rattle.block_pool.specs.Blocks.{is_free, is_ready}
use Rattle.board.specs.Flash.{Flash, IsContent}
use Rattle.chain_log.specs.Pages.{IsCleanFrom}
use Rattle.image_table.specs.Table.{in_records, table_of, table_rule}
use Rattle.meta_journal.specs.Directories.{directory_of}
use Rattle.meta_journal.specs.Journals.{FirmJournal}
use Rattle.meta_journal.specs.Standing as journals
use Rattle.pst_model.specs.Table.{Table}
use Rattle.record_view.specs.declared.link.Link.{Link}
use Rattle.store_directory.specs.Directory.{Listed}
use Rattle.store_load.specs.Extents.{last_of}
use Rattle.store_load.specs.Loaded.{index_of, used_in}
use Rattle.store_policy.specs.Shown.{IsTableShown}
use Rattle.store_policy.specs.declared.view.View.{View}
use Rattle.time_index.specs.TimeIndex.{TimeIndex}
use Rattle.vault.specs.Memory.{EachStore, InMemory, IsViewOf}
use Rattle.vault.specs.declared.last_block.LastBlock.{LastBlock}

-- the pages of the last block from one on are clean
abbrev pub IsCleanBehind : Flash → List Link → (used : ℕ) → Type 0
IsCleanBehind flash [] used = ⊤
IsCleanBehind flash (link ∷ links) used = IsCleanFrom flash (last_of link links).block used

-- An index is that of the records which a store keeps in the flash. They use so many pages of its
-- last block, and if the block is not stale, the others are clean.
pub record IsStoreOf (flash : Flash) (now : ℕ) (s : Listed) (index : TimeIndex) (last : LastBlock)
    : Type 0 where
  pub index_is : index_of table_rule flash.content now s.row s.links ≡ Some index
  pub used_is : last.used ≡ used_in flash.content s.row s.links
  pub clean : last.stale ≡ false → IsCleanBehind flash s.links last.used

-- What is in memory is so of the flash, and both are of one table.
--
-- The table is committed, since the flash holds it and a stop leaves it, and it is the current one,
-- since the memory shows it. While nothing is pending, these are one table.
pub record StandsFor (vault : InMemory) (flash : Flash) (table : Table) : Type 0 where
  pub pages : IsContent vault.blocks flash.content
  -- the flash holds the table, and the directory that lies in memory
  pub holds : table_of vault.blocks flash.content ≡ Some table
  pub directory : directory_of vault.blocks flash.content ≡ Some vault.directory.directory
  -- what is shown is the table
  pub shows : (view : View) → IsViewOf view vault → IsTableShown table view
  -- the journal and the stores are those of the flash
  pub journal : journals.StandsFor vault.journal flash
  pub stores : EachStore (IsStoreOf flash vault.directory.now) vault.directory.stores vault.indexes
      vault.lasts
  -- a free block that is ready is clean throughout
  pub ready : (block : ℕ) → is_free vault.pool block ≡ true → is_ready vault.pool block ≡ true
      → IsCleanFrom flash block 0
  -- nothing that the table is read from is loose
  pub firm_journal : FirmJournal flash
  pub firm_records : (p : ℕ) → in_records flash.content p vault.directory.directory ≡ true
      → flash.loose p ≡ false
