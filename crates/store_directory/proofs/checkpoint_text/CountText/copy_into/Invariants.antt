use Rattle.std.proofs.Common.{◌≡◌, take}
use Rattle.store_directory.proofs.checkpoint_text.CountText.copy_into.Given as goal

abbrev pub invariant-loop-number : goal.invariant-loop-number
invariant-loop-number l = take l.number l.wear ≡ take l.number l.self
