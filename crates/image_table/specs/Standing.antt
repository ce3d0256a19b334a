-- A flash that stands for a table.
use Rattle.std.specs.Prelude.{◌≡◌, ◌⊎◌, ◌<◌, ℕ, Bool, true, false, List, Some}
use Rattle.board.specs.Flash.{Flash, IsContent}
use Rattle.meta_journal.specs.Journals.{IsJournal}
use Rattle.pst_model.specs.Table.{Table}
use Rattle.root_vote.specs.declared.root.Root.{Root}
use Rattle.store_directory.specs.Directory.{Directory}
use Rattle.image_table.specs.Table.{in_records, table_by, table_of}

-- An image holds a table.
abbrev pub HoldsTable : (blocks : ℕ) → Table → (ℕ → List ℕ) → Type 0
HoldsTable blocks table image = table_of blocks image ≡ Some table

-- the one or the other
abbrev pub HoldsEitherTable : (blocks : ℕ) → (before after : Table) → (ℕ → List ℕ) → Type 0
HoldsEitherTable blocks before after image =
    HoldsTable blocks before image ⊎ HoldsTable blocks after image

-- Its journal holds a directory of this table, whose records stand in firm pages.
pub record StandsFor (blocks : ℕ) (root : Root) (d : Directory) (at : ℕ) (table : Table)
    (flash : Flash) : Type 0 where
  pub pages : IsContent blocks flash.content
  pub journal : IsJournal blocks root d at flash
  pub loads : table_by blocks flash.content d ≡ Some table
  pub firm_records : (p : ℕ) → in_records flash.content p d ≡ true → flash.loose p ≡ false

-- Pages of data blocks that the table is not read from.
pub record Beside (flash : Flash) (d : Directory) (these : ℕ → Bool) : Type 0 where
  pub journal : (p : ℕ) → p < 1792 → these p ≡ false
  pub records : (p : ℕ) → in_records flash.content p d ≡ true → these p ≡ false
