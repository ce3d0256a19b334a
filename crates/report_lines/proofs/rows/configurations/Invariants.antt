use Rattle.std.proofs.Common.{◌≡◌, length, map, take}
use Rattle.report_lines.specs.Rows.{config_by}
use Rattle.report_lines.proofs.rows.configurations.Given as goal

abbrev pub invariant-loop-at : goal.invariant-loop-at
invariant-loop-at l = record {
  rows : take l.at l.rows ≡ map config_by (take l.at l.directory.stores);
  room : length l.rows ≡ 32;
}
