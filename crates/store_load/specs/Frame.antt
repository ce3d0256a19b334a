-- The pages that a store's records are read from.
use Rattle.std.specs.Prelude.{ℕ, ◌*◌, Bool, List, Option, Some, None}
use Rattle.std.specs.List.{list_any}
use Rattle.board.specs.Flash.{pages_from}
use Rattle.record_view.specs.Records.{Meaning}
use Rattle.record_view.specs.declared.link.Link.{Link}
use Rattle.store_directory.specs.declared.row.Row.{Row}
use Rattle.store_load.specs.Extents.{Extent, extents_of, pages_in, read_extent}

-- how many pages of a block are read for an extent
abbrev pub pages_read : Option (List Meaning) → ℕ
pages_read None = 0
pages_read (Some records) = pages_in records

-- whether a page is one that an extent is read from
abbrev pub in_extent : (image : ℕ → List ℕ) → (p : ℕ) → Extent → Bool
in_extent image p extent = pages_from (256 * extent.block) (pages_read (read_extent image extent)) p

-- whether a page is one that a store is read from
abbrev pub in_store : (image : ℕ → List ℕ) → (p : ℕ) → Row → List Link → Bool
in_store image p row links = list_any (in_extent image p) (extents_of row links)
