-- The stores of a directory, as they are loaded one after another.
use Rattle.std.specs.Prelude.{◌≡◌, ℕ, List, [], ◌∷◌, ◌++◌, length, Option, Some, None}
use Rattle.image_table.specs.Table.{table_rule}
use Rattle.store_directory.specs.Directory.{Listed}
use Rattle.store_load.specs.Loaded.{index_of, used_in}
use Rattle.store_put.specs.Ranges.{IsInPlace}
use Rattle.time_index.specs.TimeIndex.{TimeIndex}
use Rattle.vault.specs.Memory.{has_link}
use Rattle.vault.specs.declared.last_block.LastBlock.{LastBlock}

-- A store was loaded: where the flash is told, by the records that it keeps there.
pub record IsLoadedStore (told : Type 0) (image : ℕ → List ℕ) (now : ℕ) (s : Listed)
    (index : TimeIndex) (last : LastBlock) : Type 0 where
  pub index_is : told → index_of table_rule image now s.row s.links ≡ Some index
  pub used_is : told → last.used ≡ used_in image s.row s.links
  pub stale_is : last.stale ≡ has_link s.links
  pub in_place : IsInPlace now s.row s.links index last.used

-- a store of which the image keeps no records
abbrev pub IsUnlawful : (image : ℕ → List ℕ) → (now : ℕ) → Listed → Type 0
IsUnlawful image now s = index_of table_rule image now s.row s.links ≡ None

-- how many blocks a store has
abbrev pub links_at : Option Listed → ℕ
links_at (Some s) = length s.links
links_at None = 0

-- one store more, loaded like this
pub record GainsStore (P : TimeIndex → LastBlock → Type 0) (old_indexes : List TimeIndex)
    (old_lasts : List LastBlock) (new_indexes : List TimeIndex) (new_lasts : List LastBlock)
    : Type 0 where
  pub index : TimeIndex
  pub last : LastBlock
  pub loaded : P index last
  pub indexes : new_indexes ≡ old_indexes ++ index ∷ []
  pub lasts : new_lasts ≡ old_lasts ++ last ∷ []
