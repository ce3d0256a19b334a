-- The blocks that the stores of a directory take of a device.
use Rattle.std.specs.Prelude.{ℕ, ◌+◌, ◌/◌, Bool, ◌&&◌, nat_le, nat_lt, List, [], ◌∷◌, ◌++◌, length, map}
use Rattle.std.specs.List.{list_all}
use Rattle.record_view.specs.declared.link.Link.{Link}
use Rattle.store_directory.specs.Directory.{Listed, are_distinct}

-- the blocks that a store of this size reserves, where each block but its last has so many pages in
-- use
abbrev pub blocks_at : (least size : ℕ) → ℕ
blocks_at least size = size / least + 3

abbrev pub reserved_at : (least : ℕ) → List Listed → ℕ
reserved_at least [] = 0
reserved_at least (s ∷ stores) = blocks_at least s.size + reserved_at least stores

abbrev pub is_within : (least : ℕ) → Listed → Bool
is_within least s = nat_le (length s.links) (blocks_at least s.size)

-- the links of all stores
abbrev pub all_links : List Listed → List Link
all_links [] = []
all_links (s ∷ stores) = s.links ++ all_links stores

-- a data block of a device of so many blocks
abbrev pub is_data : (blocks : ℕ) → Link → Bool
is_data blocks link = nat_le 7 link.block && nat_lt link.block blocks

abbrev pub block_of : Link → ℕ
block_of link = link.block

-- links name different data blocks
abbrev pub are_apart : (blocks : ℕ) → List Link → Bool
are_apart blocks links = list_all (is_data blocks) links && are_distinct (map block_of links)

-- Whether stores may share a device: what they reserve leaves eight blocks of it, none has more blocks
-- than it reserves, and no two links name one block.
abbrev pub may_share : (least blocks : ℕ) → List Listed → Bool
may_share least blocks stores =
    nat_le (reserved_at least stores + 8) blocks && list_all (is_within least) stores
    && are_apart blocks (all_links stores)
