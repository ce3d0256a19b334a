use Rattle.std.proofs.Common.{arith}
use Rattle.time_index.proofs.Entries.{pages_of-le}
use Rattle.time_index.proofs.index.Index.push.Goals as goal

pub overflow_add-self : goal.overflow_add-self
overflow_add-self c = omega (arith, pages_of-le c.self.inside.ring.entries c.self.invariant.3)
