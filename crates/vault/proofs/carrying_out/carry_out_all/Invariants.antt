use Rattle.std.proofs.Common.{◌≤◌, length}
use Rattle.vault.specs.Requests.{AreCarriedOut}
use Rattle.vault.proofs.carrying_out.carry_out_all.Given as goal

abbrev pub invariant-loop-at : goal.invariant-loop-at
invariant-loop-at l = record {
  few : length l.refused.items ≤ l.at;
  carried : AreCarriedOut l.blocks l.items l.at
      (record { directory = l.fn.directory.directory; indexes = l.fn.indexes.items; lasts = l.fn.lasts.items })
      (record { directory = l.directory.directory; indexes = l.indexes.items; lasts = l.lasts.items }) l.refused.items l.size l.fn.out l.out;
}
