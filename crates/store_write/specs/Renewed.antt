-- A store's last block that is renewed: its records are copied to a fresh one.
use Rattle.std.specs.Prelude.{◌≡◌, ◌==◌, ℕ, true, false, List, [], ◌∷◌, drop, map}
use Rattle.record_view.specs.declared.link.Link.{Link}
use Rattle.store_directory.specs.Directory.{is_new}
use Rattle.store_directory.specs.declared.row.Row.{Row}
use Rattle.store_load.specs.Claims.{block_of}
use Rattle.store_load.specs.Extents.{last_of}
use Rattle.store_load.specs.Renewing.{last_position, renewed_from}
use Rattle.time_index.specs.TimeIndex.{TimeIndex}
use Rattle.time_index.specs.declared.entry.Entry.{Entry}

-- The number of the first record of a store's last block that is the store's: an only block may
-- have dead records in front of it.
abbrev pub first_in_last : Row → List Link → ℕ
first_in_last row [] = row.first
first_in_last row (link ∷ []) = row.first
first_in_last row (link ∷ next ∷ links) = (last_of next links).first

-- the link of the block that renews the last one
abbrev pub renewed_link : Row → List Link → (fresh : ℕ) → Link
renewed_link row links fresh = record { block = fresh; first = first_in_last row links }

-- the entries of a store's last block
abbrev pub last_entries : Row → List Link → TimeIndex → List Entry
last_entries row links index = drop (last_position row links) index.entries

-- the index of a store whose last block was renewed
abbrev pub renewed_index : Row → List Link → (fresh : ℕ) → TimeIndex → TimeIndex
renewed_index row links fresh index = renewed_from (last_position row links) fresh index

-- which blocks no store names behind a swap
pub record AreNamed (old new : ℕ) (before after : List Link) : Type 0 where
  pub taken : is_new new (map block_of after) ≡ false
  pub given : is_new old (map block_of after) ≡ true
  pub others : (block : ℕ) → (block == old) ≡ false → (block == new) ≡ false
      → is_new block (map block_of after) ≡ is_new block (map block_of before)
