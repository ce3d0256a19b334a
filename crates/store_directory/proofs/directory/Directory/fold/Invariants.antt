use Rattle.std.proofs.Common.{length, ◌-◌}
use Rattle.store_directory.specs.Folds.{Makes}
use Rattle.store_directory.proofs.directory.Directory.fold.Given as goal

abbrev pub invariant-loop-at : goal.invariant-loop-at
invariant-loop-at l = Makes l.text l.at l.initial.self l.self

abbrev pub decreases-loop-at : goal.decreases-loop-at
decreases-loop-at l = length l.text - l.at
