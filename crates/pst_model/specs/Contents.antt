-- The content reports, which answer requests that ask what stands (ECSS-E-ST-70-41C, 6.14.3 and
-- 6.15.3).
use Rattle.std.specs.Prelude.{ℕ, ◌-◌, is_some, find, List, [], ◌∷◌, length, map, slice_index, Option, Some, None}
use Rattle.std.specs.List.{flat_map}
use Rattle.control_defs.specs.declared.instructions.Instruction.{Instruction}
use Rattle.control_defs.specs.declared.instructions.Instruction.TheVariants.{ForwardReport, ReportTypes, Summary, Status, Configuration}
use Rattle.pst_model.specs.declared.rows.ConfigRow.{ConfigRow}
use Rattle.pst_model.specs.declared.rows.StatusRow.{StatusRow}
use Rattle.pst_model.specs.declared.rows.SummaryRow.{SummaryRow}
use Rattle.pst_model.specs.Changes.{is_named}
use Rattle.pst_model.specs.Reports.{Report, configuration_report, forward_report, status_report, summary_report, types_report}
use Rattle.pst_model.specs.Table.{Store, Stored, Table, content_of}

-- what the summary report says of a store: the times of its first and its last packet, or 0
abbrev pub times_of : Store → List ℕ
times_of store = map (λ (stored : Stored). stored.time) store.packets

abbrev pub summary_of : Store → SummaryRow
summary_of store = record {
  store = store.identifier;
  packets = length store.packets;
  pages = content_of store;
  oldest = slice_index (times_of store) 0;
  newest = slice_index (times_of store) (length store.packets - 1);
  ahead = length store.packets - store.behind;
}

-- what the status report says of a store
abbrev pub status_of : Store → StatusRow
status_of store = record {
  store = store.identifier;
  storage = store.storage;
  open_on = store.open_on;
  range = is_some store.range;
}

-- what the configuration report says of a store
abbrev pub config_of : Store → ConfigRow
config_of store = record {
  store = store.identifier;
  kind = store.kind;
  size = store.size;
  channel = store.channel;
}

-- the summary of the store that an instruction names, where it stands
abbrev pub summary_where : Option Store → List SummaryRow
summary_where (Some store) = summary_of store ∷ []
summary_where None = []

abbrev pub summary_asked : List Store → Instruction → List SummaryRow
summary_asked stores (Summary identifier) = summary_where (find (is_named identifier) stores)
summary_asked stores _ = []

-- a summary report where there is a row
abbrev pub summary_by : List SummaryRow → List Report
summary_by [] = []
summary_by (row ∷ rows) = summary_report (row ∷ rows) ∷ []

abbrev pub types_where : Option Store → List Report
types_where (Some store) = types_report store.identifier store.patterns ∷ []
types_where None = []

-- The content report on instructions of one kind, where there is one: what stands behind all of
-- them.
abbrev pub content_report : List Instruction → Table → List Report
content_report (ForwardReport ∷ items) table = forward_report table.forward ∷ []
content_report (ReportTypes identifier ∷ items) table =
    types_where (find (is_named identifier) table.stores)
content_report (Summary identifier ∷ items) table =
    summary_by (flat_map (summary_asked table.stores) (Summary identifier ∷ items))
content_report (Status ∷ items) table = status_report (map status_of table.stores) ∷ []
content_report (Configuration ∷ items) table =
    configuration_report (map config_of table.stores) ∷ []
content_report _ table = []
