use Rattle.std.proofs.Common.{◌≡◌, ◌≤◌, All, length, take}
use Rattle.std.specs.List.{flat_map}
use Rattle.pus_request.specs.View.{listed}
use Rattle.pst_model.specs.Contents.{summary_asked}
use Rattle.pst_model.specs.Reports.{HasTimes}
use Rattle.pst_model.specs.Table.{Table}
use Rattle.store_policy.specs.Shown.{IsTableShown}
use Rattle.report_lines.proofs.rows.summaries.Given as goal

abbrev pub invariant-loop-at : goal.invariant-loop-at
invariant-loop-at l = record {
  rows : (table : Table) → IsTableShown table l.view → l.rows.items ≡ flat_map (summary_asked table.stores) (take l.at (listed l.items));
  few : length l.rows.items ≤ l.at;
  times : All HasTimes l.rows.items;
}
