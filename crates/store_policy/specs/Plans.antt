-- Room in a store as its time index knows it.
use Rattle.std.specs.Prelude.{ℕ, ◌+◌, Bool, drop, nat_le}
use Rattle.time_index.specs.TimeIndex.{TimeIndex, pages_of}

-- whether there is room for so many pages once so many entries at the front are gone
abbrev pub has_room_behind : TimeIndex → (need count : ℕ) → Bool
has_room_behind index need count =
    nat_le (pages_of (drop count index.entries) + need) index.size
