-- Which table an image holds, by what was sent until then.
use Rattle.std.specs.Prelude.{◌≤◌, ℕ, List, length}
use Rattle.image_table.specs.Standing.{HoldsTable}
use Rattle.pst_model.specs.Command.{Command}
use Rattle.pst_model.specs.Table.{Table}
use Rattle.turn_laws.specs.Turns.{SendsInTurn, table_after}

-- What was sent is a prefix of the lines for these commands, and the image holds the table after the
-- first `kept` of them. Those include each command of which a reply or retrieved line has begun to be
-- sent, and of them only the last one may have such a line that is not wholly sent.
pub record InTurn (blocks : ℕ) (table : Table) (commands : List Command) (before octets : List ℕ)
    (image : ℕ → List ℕ) : Type 0 where
  pub kept : ℕ
  pub turn : SendsInTurn blocks table commands before octets kept
  pub holds : HoldsTable blocks (table_after blocks table commands kept) image

-- The image holds the table after a prefix of the commands.
pub record HoldsPrefix (blocks : ℕ) (table : Table) (commands : List Command) (image : ℕ → List ℕ)
    : Type 0 where
  pub kept : ℕ
  pub within : kept ≤ length commands
  pub holds : HoldsTable blocks (table_after blocks table commands kept) image
