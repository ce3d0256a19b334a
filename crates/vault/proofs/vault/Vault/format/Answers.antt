use Rattle.std.proofs.Common.{◌≡◌, ℕ, List, Some}
use Rattle.board.specs.Flash.{IsImage}
use Rattle.board.specs.Meaning.{TellsFlash}
use Rattle.image_table.specs.Standing.{HoldsTable}
use Rattle.meta_journal.specs.Directories.{directory_of}
use Rattle.pst_model.specs.Table.{after_format}
use Rattle.store_directory.specs.Format.{first_directory}
use Rattle.vault.proofs.Formats.{format_holds}
use Rattle.vault.proofs.Stands.{ok_gives}
use Rattle.vault.proofs.vault.Vault.format.Goals as goal

pub returns-clause-holds : goal.returns-clause-holds
returns-clause-holds g c =
    let means = g.B.Board.means in
    let old = c.args.board.now in
    let new = c.format.new.board in
    let blocks = (means.device old).blocks in
    ok_gives c.format.result
    (TellsFlash means old → (image : ℕ → List ℕ) → means.images new (means.moment new) image → directory_of blocks image ≡ Some first_directory)
    (TellsFlash means old → (image : ℕ → List ℕ) → means.images new (means.moment new) image → HoldsTable blocks after_format image)
    c.format.ensures.holds (λ is told image left. format_holds blocks image (g.met.B.Board.enough_blocks old) (is told image left))

pub returns-clause-later : goal.returns-clause-later
returns-clause-later g c =
    let means = g.B.Board.means in
    let old = c.args.board.now in
    let new = c.format.new.board in
    let blocks = (means.device old).blocks in
    ok_gives c.format.result
    (TellsFlash means old → (image : ℕ → List ℕ) → IsImage blocks (means.flash new) image → directory_of blocks image ≡ Some first_directory)
    (TellsFlash means old → (image : ℕ → List ℕ) → IsImage blocks (means.flash new) image → HoldsTable blocks after_format image)
    c.format.ensures.later (λ is told image here. format_holds blocks image (g.met.B.Board.enough_blocks old) (is told image here))
