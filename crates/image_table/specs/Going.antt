-- How a table goes on with the directory that it is of.
use Rattle.std.specs.Prelude.{◌≡◌, ◌<◌, ◌^◌, ℕ, true, List, [], ◌∷◌, ◌++◌, drop, Some}
use Rattle.board.specs.Flash.{IsContent}
use Rattle.pst_model.specs.Changes.{is_named}
use Rattle.pst_model.specs.Rules.{at_first}
use Rattle.pst_model.specs.Table.{Store, Stored, Table}
use Rattle.record_view.specs.declared.link.Link.{Link}
use Rattle.store_directory.specs.Changes.{Change, Links, Put, apply}
use Rattle.store_directory.specs.Checkpoints.{is_lawful}
use Rattle.store_directory.specs.Directory.{Directory, IsDirectory}
use Rattle.store_directory.specs.declared.row.Row.{Row}
use Rattle.store_load.specs.Claims.{may_share}
use Rattle.image_table.specs.Table.{table_by}

-- a store of the table with another row of the directory, and these packets
abbrev pub with_row : Row → List Stored → Store → Store
with_row row packets store = record {
  identifier = row.identifier;
  kind = row.kind;
  size = row.size;
  channel = row.channel;
  storage = row.storage;
  open_on = row.open_on;
  told = row.told;
  patterns = store.patterns;
  packets = packets;
  behind = row.behind;
  range = row.range;
}

-- The table with another row of a store: so many packets leave its front, and these go behind its
-- last one.
abbrev pub table_put : Row → (gone : ℕ) → (more : List Stored) → Table → Table
table_put row gone more table = record table {
  stores =
      at_first (is_named row.identifier)
      (λ store. with_row row (drop gone store.packets ++ more) store) table.stores;
}

-- A change of a directory whose table stands in an image: the next one is lawful, and its stores may
-- share the device.
pub record Changes (blocks : ℕ) (image : ℕ → List ℕ) (d : Directory) (table : Table) (change : Change)
    (next : Directory) : Type 0 where
  pub pages : IsContent blocks image
  pub directory : IsDirectory d
  pub loads : table_by blocks image d ≡ Some table
  pub applied : apply d change ≡ Some next
  pub lawful : is_lawful next ≡ true
  pub share : may_share 240 blocks next.stores ≡ true

-- A store without blocks gets a first one, and a row with one record there.
pub record Begins (blocks : ℕ) (image : ℕ → List ℕ) (d : Directory) (table : Table) (link : Link) (row : Row)
    (next : Directory) : Type 0 where
  pub loads : table_by blocks image d ≡ Some table
  pub middle : Directory
  pub linked : apply d (Links row.identifier (link ∷ [])) ≡ Some middle
  pub put : apply middle (Put row) ≡ Some next
  pub lawful : is_lawful next ≡ true
  pub share : may_share 240 blocks next.stores ≡ true
  pub count : row.count ≡ 1
  pub first : row.first < 2 ^ 32
  pub same : link.first ≡ row.first
