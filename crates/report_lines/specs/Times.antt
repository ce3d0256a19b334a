-- Times that fit the fields of a report.
use Rattle.std.specs.Prelude.{◌<◌, ◌^◌, All, List}
use Rattle.time_index.specs.TimeIndex.{TimeIndex}
use Rattle.time_index.specs.declared.entry.Entry.{Entry}

-- the times of the entries have six octets each
abbrev pub HaveTimes : List Entry → Type 0
HaveTimes entries = All (λ (entry : Entry). entry.stamp < 2 ^ 48) entries

-- those of the entries of each index
abbrev pub AllHaveTimes : List TimeIndex → Type 0
AllHaveTimes indexes = All (λ (index : TimeIndex). HaveTimes index.entries) indexes
