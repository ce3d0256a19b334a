-- The packet that a grant sends, by the rows of stores, and what becomes of their positions
-- (ECSS-E-ST-70-41C, 6.15.3).
use Rattle.std.specs.Prelude.{◌≡◌, ◌<◌, ◌^◌, ℕ, ◌+◌, ◌-◌, ◌%◌, ◌&&◌, Bool, true, false, is_some, nat_lt, if◌then◌else◌, List, [], ◌∷◌, Option, Some, None}
use Rattle.std.specs.Option.{option_or}
use Rattle.pst_model.specs.Ranges.{range_between}
use Rattle.pst_model.specs.Rules.{range_next, range_sent}
use Rattle.pst_model.specs.Table.{range_behind}
use Rattle.store_directory.specs.Directory.{Listed}
use Rattle.store_directory.specs.declared.row.Row.{Row}
use Rattle.time_index.specs.TimeIndex.{TimeIndex, count_below, count_up_to}
use Rattle.retrieval.specs.declared.pick.Pick.{Pick}

-- a packet is the next one of its store: of its range, or of open retrieval
abbrev pub IsNext : (range : Bool) → (position : ℕ) → Row → Type 0
IsNext true position row = (end : ℕ) × (row.range ≡ Some (position, end)) × (position < end)
IsNext false position row = (row.behind ≡ position) × (row.behind < row.count)

abbrev pub IsPickOf : Row → Pick → Type 0
IsPickOf row pick = IsNext pick.range pick.position row

-- the row behind a packet that was sent
abbrev pub sent_row : (range : Bool) → Row → Row
sent_row true row = record row { range = range_sent row.range }
sent_row false row = record row { behind = row.behind + 1 }

-- the row without its first packets; record numbers begin again at 2^32
abbrev pub dropped_row : (dropped : ℕ) → Row → Row
dropped_row dropped row = record row {
  first = (row.first + dropped) % 2 ^ 32;
  count = row.count - dropped;
  behind = row.behind - dropped;
  range = range_behind dropped row.range;
}

-- the row with a range retrieval of the packets with times from t1 to t2
abbrev pub ranged_row : (t1 t2 : ℕ) → TimeIndex → Row → Row
ranged_row t1 t2 index row = record row {
  range = range_between (count_below index.entries t1) (count_up_to index.entries t2);
}

-- the row whose open retrieval goes on from t
abbrev pub opened_row : (t : ℕ) → TimeIndex → Row → Row
opened_row t index row = record row { behind = count_below index.entries t }

-- whether a store has a range, or packets ahead of open retrieval
abbrev pub has_range : Row → Bool
has_range row = is_some row.range

abbrev pub has_ahead : Row → Bool
has_ahead row = row.open_on && nat_lt row.behind row.count

-- the next packet of a store at a place

abbrev pub range_pick : (at : ℕ) → Row → Pick
range_pick at row =
    record { at = at; position = range_next row.range; channel = row.channel; range = true }

abbrev pub open_pick : (at : ℕ) → Row → Pick
open_pick at row =
    record { at = at; position = row.behind; channel = row.channel; range = false }

-- that of the first store that passes, the first of which has this place
abbrev pub first_pick : (Row → Bool) → ((at : ℕ) → Row → Pick) → (at : ℕ) → List Listed
    → Option Pick
first_pick test pick at [] = None
first_pick test pick at (store ∷ stores) =
    if test store.row then Some (pick at store.row) else first_pick test pick (at + 1) stores

-- The packet that a grant sends: that of the first range; where there is none, that of the first
-- store whose open retrieval has packets ahead.
abbrev pub pick_of : List Listed → Option Pick
pick_of stores =
    option_or (first_pick has_range range_pick 0 stores) (first_pick has_ahead open_pick 0 stores)
