use Rattle.std.proofs.Common.{◌≡◌, length}
use Rattle.store_load.proofs.load_tests.fill.Given as goal

abbrev pub invariant-loop-number : goal.invariant-loop-number
invariant-loop-number l = length l.image ≡ length l.initial.image
