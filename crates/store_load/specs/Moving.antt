-- How a store goes on: its front goes, and records are put behind its last one.
use Rattle.std.specs.Prelude.{◌≡◌, ◌≤◌, ℕ, ◌+◌, ◌-◌, ◌%◌, ◌^◌, List, [], ◌∷◌, drop, length}
use Rattle.std.specs.Option.{option_map}
use Rattle.record_view.specs.Records.{Meaning}
use Rattle.record_view.specs.declared.link.Link.{Link}
use Rattle.store_directory.specs.Rows.{between}
use Rattle.store_directory.specs.declared.row.Row.{Row}
use Rattle.store_load.specs.Extents.{Extent, end_of, extent_to, last_of, read_extent}
use Rattle.store_load.specs.Frame.{pages_read}
use Rattle.store_load.specs.declared.rule.Rule.{Rule}

-- the extent of a store's last block
abbrev pub last_extent : Row → Link → List Link → Extent
last_extent row link links = extent_to (end_of row) (last_of link links)

-- the pages of a store's last block that its records take
abbrev pub used_by : (image : ℕ → List ℕ) → Row → Link → List Link → ℕ
used_by image row link links = pages_read (read_extent image (last_extent row link links))

-- A row has the records of another one without so many first ones, and so many more behind them.
pub record GoesOn (gone more : ℕ) (row next : Row) : Type 0 where
  pub few : gone ≤ row.count
  pub first : next.first ≡ (row.first + gone) % 2 ^ 32
  pub count : next.count ≡ row.count - gone + more

-- A record may stand behind those up to `now`, in a table of the time `later`.
pub record IsNext (rule : Rule) (now later : ℕ) (meaning : Meaning) : Type 0 where
  pub since : now ≤ meaning.stamp
  pub by : meaning.stamp ≤ later
  pub short : length meaning.packet ≤ rule.largest

-- A block spells the live records of a store's last one under the same numbers: if that is its only
-- one, from the store's first record on, and else from the first of the last link on.
abbrev pub SpellsLast : (image : ℕ → List ℕ) → Row → List Link → (new : Link) → Type 0
SpellsLast image row [] new = ⊥
SpellsLast image row (link ∷ []) new =
    (new.first ≡ row.first)
    × (read_extent image (extent_to (end_of row) new)
    ≡ option_map (drop (between link.first row.first)) (read_extent image (extent_to (end_of row) link)))
SpellsLast image row (link ∷ next ∷ links) new =
    (new.first ≡ (last_of next links).first)
    × (read_extent image (extent_to (end_of row) new) ≡ read_extent image (last_extent row link (next ∷ links)))
