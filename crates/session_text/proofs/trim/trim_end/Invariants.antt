use Rattle.std.proofs.Common.{length, drop, ◌≤◌}
use Rattle.std.specs.Prelude.{All}
use Rattle.pst_model.specs.Fields.{IsBlank}
use Rattle.session_text.proofs.trim.trim_end.Given as goal

abbrev pub invariant-blanks : goal.invariant-blanks
invariant-blanks l = record {
  within : l.to ≤ length l.line;
  all : All IsBlank (drop l.to l.line);
}

abbrev pub decreases-blanks : goal.decreases-blanks
decreases-blanks l = l.to
