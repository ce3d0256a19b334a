use Rattle.std.specs.Prelude.{take}
use Rattle.store_directory.specs.Appended.{HasMore}
use Rattle.store_directory.proofs.slot.Slot.append.Given as goal

abbrev pub invariant-loop-at : goal.invariant-loop-at
invariant-loop-at g l = HasMore (take l.at (g.L.LinkList.listed l.links)) l.initial.self l.self
