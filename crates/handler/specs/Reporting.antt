-- What answers a request whose instructions were carried out.
use Rattle.std.specs.Prelude.{ℕ, List, ◌++◌, map}
use Rattle.control_defs.specs.declared.instructions.Instruction.{Instruction}
use Rattle.pst_model.specs.Answers.{completed, verdicts_before}
use Rattle.pst_model.specs.Contents.{content_report}
use Rattle.pst_model.specs.Reports.{Report, verdict_report}
use Rattle.pst_model.specs.Table.{Table}

-- the reports on the request with this identifier and these acknowledgement flags, some of whose
-- instructions failed, where the table is the one behind them
abbrev pub reports_for : (identifier : List ℕ) → (acks : ℕ) → (failures : List (ℕ × ℕ))
    → List Instruction → Table → List Report
reports_for identifier acks failures items table =
    map (verdict_report identifier) (verdicts_before acks failures)
    ++ content_report items table
    ++ map (verdict_report identifier) (completed acks failures)
