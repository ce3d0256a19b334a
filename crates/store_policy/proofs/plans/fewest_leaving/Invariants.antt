use Rattle.std.proofs.Common.{◌≡◌, ◌+◌, ◌<◌, ℕ, false, drop}
use Rattle.store_policy.specs.Plans.{has_room_behind}
use Rattle.time_index.specs.TimeIndex.{pages_of}
use Rattle.store_policy.proofs.plans.fewest_leaving.Given as goal

abbrev pub invariant-entries : goal.invariant-entries
invariant-entries l = record {
  total : l.free + pages_of (drop l.count l.index.entries) ≡ l.index.size;
  before : (n : ℕ) → n < l.count → has_room_behind l.index l.need n ≡ false;
}
