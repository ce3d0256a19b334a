-- A content report in a buffer.
use Rattle.std.specs.Prelude.{◌≡◌, ◌≤◌, ℕ, List, [], ◌∷◌, take}
use Rattle.pus_report.specs.declared.head.Head.{Head}
use Rattle.pst_model.specs.Reports.{Report, report_packet}

-- There is one report, and its packet with this head stands at the front of the buffer, so long.
pub record HoldsReport (reports : List Report) (head : Head) (out : List ℕ)
    (length : ℕ) : Type 0 where
  pub report : Report
  pub only : reports ≡ report ∷ []
  pub written : take length out ≡ report_packet head.count head.moment report
  pub short : length ≤ 1024
