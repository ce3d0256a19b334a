use Rattle.std.proofs.Common.{arith}
use Rattle.time_index.proofs.Entries.{pages_of-le, pages_of_more, pages_of_more_le}
use Rattle.time_index.proofs.ring.Ring.pages_before.Goals as goal

pub overflow_add-pages : goal.overflow_add-pages
overflow_add-pages c =
    let es = c.args.self.now.entries in
    omega (
      arith,
      pages_of-le es c.requires.lengths,
      pages_of_more_le es c.entries.i c.entry.result c.entry.ensures (omega arith),
    )

pub entries-preserved : goal.entries-preserved
entries-preserved c =
    omega (
      arith,
      pages_of_more c.args.self.now.entries c.entries.i c.entry.result
          c.entry.ensures (omega arith),
    )
