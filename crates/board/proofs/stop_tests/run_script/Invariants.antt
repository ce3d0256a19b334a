use Rattle.std.proofs.Common.{◌<◌, ◌≤◌, ℕ}
use Rattle.board.specs.Flash.{IsClean}
use Rattle.board.specs.Memory.{flash_of}
use Rattle.board.proofs.stop_tests.run_script.Given as goal

abbrev pub invariant-loop-place : goal.invariant-loop-place
invariant-loop-place l = (p : ℕ) → l.place ≤ p → p < 256 → IsClean (flash_of l.board) p
