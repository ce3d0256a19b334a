use Rattle.std.proofs.Common.{◌≡◌, ◌++◌, take}
use Rattle.std.specs.Prelude.{map}
use Rattle.pst_model.specs.Answers.{failed_start}
use Rattle.report_lines.proofs.verdicts.push_failures.Given as goal

abbrev pub invariant-loop-failure : goal.invariant-loop-failure
invariant-loop-failure l =
    record { pushed : l.verdicts.items ≡ l.fn.verdicts.items ++ map failed_start (take l.failure-index l.failures) }
