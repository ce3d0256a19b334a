-- The table after a format.
use Rattle.std.proofs.Common.{◌≡◌, ℕ, ◌≤◌, ◌&&◌, Bool, true, List, Some, refl, ap, arith, le-leb}
use Rattle.image_table.proofs.Frames.{loads_table}
use Rattle.image_table.proofs.Standing.{table_here}
use Rattle.image_table.specs.Standing.{HoldsTable}
use Rattle.image_table.specs.Table.{store_of}
use Rattle.meta_journal.specs.Directories.{directory_of}
use Rattle.pst_model.specs.Table.{after_format}
use Rattle.store_directory.specs.Changes.{apply}
use Rattle.store_directory.specs.Checkpoints.{is_lawful}
use Rattle.store_directory.specs.Format.{first_directory}
use Rattle.store_load.specs.Claims.{may_share}
use Rattle.store_load.specs.Each.{each}
use Rattle.store_load.specs.Kept.{kept_of}

first_lawful : is_lawful first_directory ≡ true
unfolding is_lawful apply
first_lawful = refl

first_shares : (blocks : ℕ) → 16 ≤ blocks → may_share 240 blocks first_directory.stores ≡ true
first_shares blocks enough = ap (λ (b : Bool). b && true && true) (le-leb 11 blocks (omega (arith, enough)))

first_stores : (image : ℕ → List ℕ) → each (store_of image first_directory.now) first_directory.stores ≡ Some after_format.stores
unfolding kept_of
first_stores image = refl

-- an image with the directory of a format holds that table
pub format_holds : (blocks : ℕ) (image : ℕ → List ℕ) → 16 ≤ blocks → directory_of blocks image ≡ Some first_directory
    → HoldsTable blocks after_format image
format_holds blocks image enough is =
    table_here blocks image first_directory after_format is
    (loads_table blocks image first_directory after_format
    (record { lawful = first_lawful; share = first_shares blocks enough; stores = first_stores image; whole = refl }))
