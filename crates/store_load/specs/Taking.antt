-- Blocks that are taken of those that are free, one after another.
use Rattle.std.specs.Prelude.{◌≡◌, ℕ, ◌&&◌, Bool, false, true, if◌then◌else◌, List, [], ◌∷◌, get_or, map, set, Option, Some, None}
use Rattle.block_pool.specs.Blocks.{Blocks, IsData, is_free}
use Rattle.record_view.specs.declared.link.Link.{Link}
use Rattle.store_directory.specs.Directory.{is_new}
use Rattle.store_load.specs.Claims.{block_of}

-- every data block of the device is free
abbrev pub AllAreFree : Blocks → Type 0
AllAreFree pool = (block : ℕ) → IsData pool block → is_free pool block ≡ true

-- A block is free afterwards if it was free before and none of these links names it.
abbrev pub AreTaken : List Link → (before after : Blocks) → Type 0
AreTaken links before after =
    (block : ℕ) → is_free after block ≡ (is_free before block && is_new block (map block_of links))

-- the marks of the free blocks without those of links, if each was free as its turn came
abbrev pub take_each : (free : List Bool) → List Link → Option (List Bool)
take_each free [] = Some free
take_each free (link ∷ links) =
    if get_or free link.block false then take_each (set free link.block false) links else None
