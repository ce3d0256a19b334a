-- Reports as outputs.
use Rattle.std.specs.Prelude.{ℕ, List, [], ◌∷◌, ◌++◌, length}
use Rattle.pst_model.specs.Reports.{Report, count_behind, report_packet}
use Rattle.pst_model.specs.Rules.{Output, Reply, Step}
use Rattle.pst_model.specs.Table.{Table}

-- a report as an output, with this sequence count
abbrev pub reply : (number moment count : ℕ) → Report → Output
reply number moment count report = record {
  command = number;
  kind = Reply;
  channel = 0;
  packet = report_packet count moment report;
}

-- Reports as outputs: each has the count of those before it, modulo 16,384.
abbrev pub replies_from : (number moment count : ℕ) → List Report → List Output
replies_from number moment count [] = []
replies_from number moment count (report ∷ reports) =
    reply number moment count report ∷ replies_from number moment (count_behind count 1) reports

-- the table behind reports, which went out
abbrev pub replied : (number moment : ℕ) → Table → List Report → Step
replied number moment table reports = record {
  table = record table { reports = count_behind table.reports (length reports) };
  outputs = replies_from number moment table.reports reports;
}

-- outputs in front of others
abbrev pub behind_outputs : List Output → Step → Step
behind_outputs outputs behind = record { table = behind.table; outputs = outputs ++ behind.outputs }
