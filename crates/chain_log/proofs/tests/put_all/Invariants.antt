use Rattle.std.proofs.Common.{◌≡◌}
use Rattle.board.specs.Memory.{device_of, flash_of}
use Rattle.chain_log.specs.Pages.{IsCleanFrom}
use Rattle.chain_log.proofs.tests.put_all.Given as goal

abbrev pub invariant-loop-count : goal.invariant-loop-count
invariant-loop-count l = record {
  device : device_of l.board ≡ device_of l.fn.board;
  block : l.tail.block ≡ l.fn.tail.block;
  clean : IsCleanFrom (flash_of l.board) l.tail.block l.tail.used;
}
