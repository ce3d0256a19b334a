use Rattle.std.proofs.Common.{◌≡◌, ◌≤◌}
use Rattle.board.specs.Memory.{device_of}
use Rattle.chain_log.proofs.tests.are_loaded.Given as goal

abbrev pub invariant-loop-count : goal.invariant-loop-count
invariant-loop-count l = record {
  device : device_of l.board ≡ device_of l.fn.board;
  page : l.page ≤ 256;
}
