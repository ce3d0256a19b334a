use Rattle.std.proofs.Common.{subst}
use Rattle.store_directory.specs.Directory.{AreListed}
use Rattle.store_directory.specs.Slots.{AreWithin}
use Rattle.store_directory.proofs.Kept.{are-listed}
use Rattle.store_directory.proofs.Sizes.{are-within}
use Rattle.store_directory.proofs.stores.Stores.len.Goals as goal

pub returns-clause-kept : goal.returns-clause-kept
returns-clause-kept c = subst (λ h. AreListed h.stores) c.self.view_is (are-listed c.self.inside.slots.entries c.self.invariant)

pub returns-clause-within : goal.returns-clause-within
returns-clause-within c = subst AreWithin c.self.view_is (are-within c.self.inside.slots.entries c.self.invariant.each)
