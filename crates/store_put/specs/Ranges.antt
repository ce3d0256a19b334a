-- What holds in memory of each store, on every board, and goes on from put to put.
use Rattle.std.specs.Prelude.{◌≤◌, ⊤, ℕ, zero, suc, List, [], ◌∷◌}
use Rattle.image_table.specs.Table.{table_rule}
use Rattle.record_view.specs.declared.link.Link.{Link}
use Rattle.store_directory.specs.Rows.{between}
use Rattle.store_directory.specs.declared.row.Row.{Row}
use Rattle.store_load.specs.Extents.{end_of}
use Rattle.store_load.specs.InRange.{IsInRange}
use Rattle.time_index.specs.TimeIndex.{TimeIndex}

-- Each block has at most as many records as a block has pages, and the last one as it has in use.
abbrev pub AreFew : (used end : ℕ) → Link → List Link → Type 0
AreFew used end link [] = between link.first end ≤ used
AreFew used end link (next ∷ links) =
    (between link.first next.first ≤ 256) × AreFew used end next links

abbrev pub AreFewIn : (used end : ℕ) → List Link → Type 0
AreFewIn used end [] = ⊤
AreFewIn used end (link ∷ links) = AreFew used end link links

-- A store's records are in range, and few enough for their blocks.
pub record IsInPlace (now : ℕ) (row : Row) (links : List Link) (index : TimeIndex) (used : ℕ)
    : Type 0 where
  pub in_range : IsInRange table_rule now row links index used
  pub few : AreFewIn used (end_of row) links

-- a last block has no room for each packet any more, and a store without blocks has none
abbrev pub IsFullBy : (used : ℕ) → List Link → Type 0
IsFullBy used [] = ⊤
IsFullBy used (link ∷ links) = 240 ≤ used

-- the pages in use of the last block of a store with so many packets: none where it has none
abbrev pub used_for : (count used : ℕ) → ℕ
used_for zero used = 0
used_for (suc count) used = used
