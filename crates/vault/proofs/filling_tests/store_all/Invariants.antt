use Rattle.std.proofs.Common.{◌≡◌, true}
use Rattle.board.specs.Meaning.{TellsFlash}
use Rattle.pst_model.specs.Table.{Table}
use Rattle.vault.specs.Standing.{StandsFor}
use Rattle.vault.proofs.filling_tests.store_all.Given as goal

abbrev pub invariant-loop-done : goal.invariant-loop-done
invariant-loop-done g l = record {
  is_open : l.vault.is_open ≡ true;
  blocks : l.vault.blocks ≡ (g.B.Board.means.device l.board).blocks;
  flash : TellsFlash g.B.Board.means l.board → (table : Table) × StandsFor l.vault (g.B.Board.means.flash l.board) table;
}
