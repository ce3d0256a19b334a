use Rattle.std.proofs.Common.{length, drop, ◌-◌, ◌≡◌, ◌≤◌}
use Rattle.session_text.specs.Fronts.{trimmed}
use Rattle.session_text.proofs.trim.trim_front.Given as goal

abbrev pub invariant-blanks : goal.invariant-blanks
invariant-blanks l = record {
  within : l.from ≤ length l.line;
  same : trimmed (drop l.from l.line) ≡ trimmed l.line;
}

abbrev pub decreases-blanks : goal.decreases-blanks
decreases-blanks l = length l.line - l.from
