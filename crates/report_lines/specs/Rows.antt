-- What reports say of a store, by its row and its time index.
use Rattle.std.specs.Prelude.{ℕ, ◌-◌, is_some, List, length, map, slice_index}
use Rattle.pst_model.specs.declared.rows.ConfigRow.{ConfigRow}
use Rattle.pst_model.specs.declared.rows.StatusRow.{StatusRow}
use Rattle.pst_model.specs.declared.rows.SummaryRow.{SummaryRow}
use Rattle.store_directory.specs.Directory.{Listed}
use Rattle.store_directory.specs.declared.row.Row.{Row}
use Rattle.time_index.specs.TimeIndex.{TimeIndex, pages_of, stamp_of}

-- the times of its packets
abbrev pub stamps_of : TimeIndex → List ℕ
stamps_of index = map stamp_of index.entries

-- the summary: the times of its first and its last packet, or 0, and how many packets are not retrieved yet
abbrev pub summary_by : Row → TimeIndex → SummaryRow
summary_by row index = record {
  store = row.identifier;
  packets = length index.entries;
  pages = pages_of index.entries;
  oldest = slice_index (stamps_of index) 0;
  newest = slice_index (stamps_of index) (length index.entries - 1);
  ahead = length index.entries - row.behind;
}

-- what is on in it
abbrev pub status_by : Listed → StatusRow
status_by listed = record {
  store = listed.identifier;
  storage = listed.storage;
  open_on = listed.open_on;
  range = is_some listed.range;
}

-- how it is made
abbrev pub config_by : Listed → ConfigRow
config_by listed = record {
  store = listed.identifier;
  kind = listed.kind;
  size = listed.size;
  channel = listed.channel;
}
