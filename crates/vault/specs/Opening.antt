-- A vault whose stores were loaded.
use Rattle.std.specs.Prelude.{◌≡◌, ℕ, true, List, length}
use Rattle.block_pool.specs.Blocks.{new_pool}
use Rattle.meta_journal.specs.Standing as journals
use Rattle.store_directory.specs.Directory.{IsDirectory}
use Rattle.store_directory.specs.Kept.{Kept}
use Rattle.vault.specs.Loading.{IsLoadedStore}
use Rattle.vault.specs.Memory.{EachStore, InMemory, IsSound}

-- It keeps a directory, with the stores that were loaded of it, and a journal.
pub record IsLoadedVault (told : Type 0) (image : ℕ → List ℕ) (blocks : ℕ) (wear : List ℕ)
    (d : Kept) (journal : journals.Kept) (vault : InMemory) : Type 0 where
  pub directory : vault.directory ≡ d
  pub lawful : IsDirectory d.directory
  pub stores : EachStore (IsLoadedStore told image vault.directory.now) vault.directory.stores
      vault.indexes vault.lasts
  pub journal_is : vault.journal ≡ journal
  pub wear_is : vault.pool.wear ≡ wear
  pub ready_is : vault.pool.ready ≡ (new_pool (length wear)).ready
  pub blocks_is : vault.blocks ≡ blocks
  pub is_open : vault.is_open ≡ true
  pub sound : IsSound vault
