use Rattle.std.proofs.Common.{◌≡◌, take}
use Rattle.time_index.specs.TimeIndex.{pages_of}
use Rattle.time_index.proofs.ring.Ring.pages_before.Given as goal

abbrev pub invariant-entries : goal.invariant-entries
invariant-entries l = l.pages ≡ pages_of (take l.i l.self.entries)
