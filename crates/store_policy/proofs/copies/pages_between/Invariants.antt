use Rattle.std.proofs.Common.{◌≡◌, ◌≤◌, ◌-◌, drop, take}
use Rattle.time_index.specs.TimeIndex.{pages_of}
use Rattle.store_policy.proofs.copies.pages_between.Given as goal

abbrev pub invariant-loop-position : goal.invariant-loop-position
invariant-loop-position l = record {
  total : l.pages ≡ pages_of (take (l.position - l.first) (drop l.first l.index.entries));
  none : l.end ≤ l.first → l.position ≡ l.first;
}
