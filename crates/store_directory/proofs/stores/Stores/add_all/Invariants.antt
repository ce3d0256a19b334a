use Rattle.std.proofs.Common.{◌≡◌, ◌++◌, length}
use Rattle.store_directory.specs.Slots.{HasOwnSizes}
use Rattle.store_directory.proofs.stores.Stores.add_all.Given as goal

abbrev pub invariant-loop-store : goal.invariant-loop-store
invariant-loop-store l = (l.self.stores ++ l.stores ≡ l.initial.self.stores ++ l.initial.stores) × (HasOwnSizes l.initial.self → HasOwnSizes l.self)

abbrev pub decreases-loop-store : goal.decreases-loop-store
decreases-loop-store l = length l.stores
