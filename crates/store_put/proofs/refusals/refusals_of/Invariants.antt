use Rattle.std.proofs.Common.{◌≡◌, ◌≤◌, List, length, take}
use Rattle.pst_model.specs.Table.{Store}
use Rattle.space_packet.specs.View.{octets_of}
use Rattle.store_policy.specs.Shown.{AreShown}
use Rattle.store_put.specs.Refusals.{refusals_of}
use Rattle.store_put.proofs.refusals.refusals_of.Given as goal

abbrev pub invariant-loop-at : goal.invariant-loop-at
invariant-loop-at l = record {
  few : length l.refused.items ≤ l.at;
  told : (stores : List Store) → AreShown stores l.directory.stores l.indexes
      → l.refused.items ≡ refusals_of (octets_of l.packet) (take l.at stores);
}
