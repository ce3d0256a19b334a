-- What contracts see of a time index.
use Rattle.std.specs.Prelude.{All, ℕ, ◌+◌, ◌-◌, ◌%◌, ◌^◌, ◌<◌, List, ◌++◌, ◌∷◌, [], length, drop, slice_get, slice_set, IfSome, ◌≤◌, ◌≡◌, count_by, nat_le, nat_lt, sum_by}
use Rattle.std.specs.List.Sorted.{IsNonDecreasingBy}
use Rattle.space_packet.specs.Charge.{charge_of}
use Rattle.time_index.specs.declared.entry.Entry.{Entry}

-- the number of the first entry's record, the entries in order, and how many there may be
pub record TimeIndex : Type 0 where
  pub first : ℕ
  pub entries : List Entry
  pub size : ℕ

abbrev pub stamp_of : Entry → ℕ
stamp_of entry = entry.stamp

-- the stamps never fall
abbrev pub IsInOrder : List Entry → Type 0
IsInOrder entries = IsNonDecreasingBy stamp_of entries

-- the pages that the packets of the entries cost
abbrev pub pages_of : List Entry → ℕ
pages_of entries = sum_by (λ entry. charge_of entry.length) entries

-- the lengths are numbers of 16 bits
abbrev pub HaveLengths : List Entry → Type 0
HaveLengths entries = All (λ entry. entry.length < 65536) entries

-- how many entries have a stamp below t
abbrev pub count_below : List Entry → ℕ → ℕ
count_below entries t = count_by (λ entry. nat_lt (stamp_of entry) t) entries

-- how many entries have a stamp of at most t
abbrev pub count_up_to : List Entry → ℕ → ℕ
count_up_to entries t = count_by (λ entry. nat_le (stamp_of entry) t) entries

-- the entry at a position has this stamp, or this length
abbrev pub HasStampAt : List Entry → ℕ → ℕ → Type 0
HasStampAt entries position stamp =
    IfSome (slice_get entries position) (λ entry. entry.stamp ≡ stamp)

abbrev pub HasLengthAt : List Entry → ℕ → ℕ → Type 0
HasLengthAt entries position length =
    IfSome (slice_get entries position) (λ entry. entry.length ≡ length)

-- the last entry, if there is one, has a stamp of at most t
abbrev pub EndsBy : List Entry → ℕ → Type 0
EndsBy entries t = IfSome (slice_get entries (length entries - 1)) (λ last. stamp_of last ≤ t)

-- an entry more at the end
abbrev pub with_entry : TimeIndex → Entry → TimeIndex
with_entry index entry = record index { entries = index.entries ++ entry ∷ [] }

-- without the first entries; the number of the first record goes on from 4,294,967,295 to 0
abbrev pub without_first : TimeIndex → ℕ → TimeIndex
without_first index count =
    record index { first = (index.first + count) % 2 ^ 32; entries = drop count index.entries }

-- another entry at a position
abbrev pub with_entry_at : TimeIndex → ℕ → Entry → TimeIndex
with_entry_at index position entry =
    record index { entries = slice_set index.entries position entry }
