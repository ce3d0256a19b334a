-- A grant, and reports that are counted, on a table that stands in an image and is shown by memory.
use Rattle.std.specs.Prelude.{◌≡◌, ℕ, List, Some}
use Rattle.board.specs.Flash.{IsContent}
use Rattle.pst_model.specs.Reports.{count_behind}
use Rattle.pst_model.specs.Table.{Table}
use Rattle.retrieval.specs.Grants.{IsRowAt}
use Rattle.retrieval.specs.Picks.{pick_of, sent_row}
use Rattle.retrieval.specs.declared.pick.Pick.{Pick}
use Rattle.store_directory.specs.Changes.{Change, Clock, Put, apply}
use Rattle.store_directory.specs.Directory.{Directory, IsDirectory}
use Rattle.store_directory.specs.declared.row.Row.{Row}
use Rattle.store_policy.specs.declared.view.View.{View}
use Rattle.image_table.specs.Table.{table_by}

-- A directory's table stands in an image, and a grant takes this pick, of the store with this row.
pub record Grants (blocks : ℕ) (image : ℕ → List ℕ) (d : Directory) (table : Table) (pick : Pick)
    (row : Row) : Type 0 where
  pub pages : IsContent blocks image
  pub directory : IsDirectory d
  pub loads : table_by blocks image d ≡ Some table
  pub picked : pick_of d.stores ≡ Some pick
  pub here : IsRowAt d.stores pick.at row

-- the change of a grant: the row of the store after its packet was sent
abbrev pub put_sent : Pick → Row → Change
put_sent pick row = Put (sent_row pick.range row)

-- the change that counts so many reports, at the directory's own time
abbrev pub counted : (reports : ℕ) → Directory → Change
counted reports d = Clock d.now (count_behind d.reports reports)

-- Memory after a change of its directory that leaves the indexes as they are.
pub record Renews (change : Change) (view after : View) : Type 0 where
  pub applied : apply view.directory.now.directory change ≡ Some after.directory.now.directory
  pub indexes : after.indexes.now ≡ view.indexes.now
