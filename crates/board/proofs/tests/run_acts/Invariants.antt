use Rattle.std.proofs.Common.{◌<◌, ◌≤◌, ℕ}
use Rattle.board.specs.Flash.{IsClean}
use Rattle.board.specs.Memory.{flash_of}
use Rattle.board.proofs.tests.run_acts.Given as goal

abbrev pub invariant-loop-call : goal.invariant-loop-call
invariant-loop-call l = (p : ℕ) → l.call ≤ p → p < 256 → IsClean (flash_of l.board) p
