use Rattle.std.proofs.Common.{◌≡◌, ◌≤◌, length, map, take}
use Rattle.report_lines.specs.Rows.{status_by}
use Rattle.report_lines.proofs.rows.statuses.Given as goal

abbrev pub invariant-loop-at : goal.invariant-loop-at
invariant-loop-at l = record {
  rows : l.rows.items ≡ map status_by (take l.at l.directory.stores);
  few : length l.rows.items ≤ l.at;
}
