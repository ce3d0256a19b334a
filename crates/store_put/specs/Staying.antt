-- What stays of a walk while a record is programmed.
use Rattle.std.specs.Prelude.{◌≡◌, ℕ, List, Some, slice_get}
use Rattle.image_table.specs.Table.{table_rule}
use Rattle.pst_model.specs.Table.{Stored, Table}
use Rattle.store_directory.specs.Changes.{Change}
use Rattle.store_directory.specs.Directory.{Directory, Listed}
use Rattle.store_load.specs.Loaded.{index_of, used_in}
use Rattle.time_index.specs.TimeIndex.{TimeIndex}
use Rattle.put_laws.specs.Walks.{HasOffered}

-- On another image the walk stands too: each store has the same index, and as many pages of its last
-- block in use.
pub record StaysOn (blocks : ℕ) (image other : ℕ → List ℕ) (d : Directory) (table : Table)
    (stored : Stored) (at : ℕ) (changes : List Change) (next : Directory) : Type 0 where
  pub walk : HasOffered blocks other d table stored at changes next
  pub places : (place : ℕ) (s : Listed) (index : TimeIndex) → slice_get next.stores place ≡ Some s
      → index_of table_rule image next.now s.row s.links ≡ Some index
      → index_of table_rule other next.now s.row s.links ≡ Some index
  pub used : (place : ℕ) (s : Listed) → slice_get next.stores place ≡ Some s
      → used_in other s.row s.links ≡ used_in image s.row s.links
