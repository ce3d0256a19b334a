-- The index of a store whose last block is another one.
use Rattle.std.specs.Prelude.{ℕ, ◌+◌, List, [], ◌∷◌, ◌++◌, drop, take}
use Rattle.space_packet.specs.Charge.{charge_of}
use Rattle.record_view.specs.declared.link.Link.{Link}
use Rattle.store_directory.specs.Rows.{between}
use Rattle.store_directory.specs.declared.row.Row.{Row}
use Rattle.time_index.specs.TimeIndex.{TimeIndex}
use Rattle.time_index.specs.declared.entry.Entry.{Entry}
use Rattle.store_load.specs.Extents.{last_of}

-- the entries of the same records in another block, one behind another from a page on
abbrev pub renewed : (block page : ℕ) → List Entry → List Entry
renewed block page [] = []
renewed block page (entry ∷ entries) =
    record entry { block = block; page = page }
    ∷ renewed block (page + charge_of entry.length) entries

-- how many of a store's records lie before its last block
abbrev pub last_position : Row → List Link → ℕ
last_position row [] = 0
last_position row (link ∷ []) = 0
last_position row (link ∷ next ∷ links) = between row.first (last_of next links).first

-- the index where the records from a position on lie in another block, from its first page on
abbrev pub renewed_from : (position block : ℕ) → TimeIndex → TimeIndex
renewed_from position block index = record index {
  entries = take position index.entries ++ renewed block 0 (drop position index.entries);
}

-- the same, while so many of these records were copied
abbrev pub renewed_part : (position count block : ℕ) → TimeIndex → TimeIndex
renewed_part position count block index =
    let behind = drop position index.entries in
    record index {
      entries = take position index.entries ++ (renewed block 0 (take count behind) ++ drop count behind);
    }
