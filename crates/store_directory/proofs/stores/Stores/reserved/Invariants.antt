use Rattle.std.proofs.Common.{◌≡◌, ◌+◌, drop}
use Rattle.store_directory.specs.Directory.{reserved_by}
use Rattle.store_directory.proofs.stores.Stores.reserved.Given as goal

abbrev pub invariant-loop-at : goal.invariant-loop-at
invariant-loop-at l = l.sum + reserved_by (drop l.at l.self.stores) ≡ reserved_by l.self.stores
