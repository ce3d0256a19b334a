-- Rows of a directory: their octets, and what is asked of them.
use Rattle.std.specs.Prelude.{◌<◌, ◌^◌, ℕ, ◌+◌, ◌-◌, ◌%◌, ◌/◌, Bool, true, false, ◌&&◌, ◌||◌, ◌==◌, nat_le, nat_lt, if◌then◌else◌, List, ◌∷◌, ◌++◌, length, slice_index, Option, Some, None}
use Rattle.octet_fields.specs.Fields.{big_bytes, field}
use Rattle.control_defs.specs.Instructions.{kind_octet, store_kind_in}
use Rattle.store_directory.specs.declared.row.Row.{Row}

-- how far a record number is behind another one, where numbers begin again at 2^32
abbrev pub between : (number later : ℕ) → ℕ
between number later = (later + 4294967296 - number) % 4294967296

-- a record number is at another one or before it
abbrev pub is_by : (number later : ℕ) → Bool
is_by number later = nat_lt (between number later) 2147483648

abbrev pub has_range : Option (ℕ × ℕ) → Bool
has_range None = false
has_range (Some range) = true

-- the positions of a range, and 0 where there is none

abbrev pub range_next : Option (ℕ × ℕ) → ℕ
range_next None = 0
range_next (Some (next, end)) = next

abbrev pub range_end : Option (ℕ × ℕ) → ℕ
range_end None = 0
range_end (Some (next, end)) = end

-- a flag as a number
abbrev pub flag_bit : Bool → (bit : ℕ) → ℕ
flag_bit false bit = 0
flag_bit true bit = bit

-- storage 1, open retrieval 2, told 4, range 8
abbrev pub flags_of : Row → ℕ
flags_of row =
    flag_bit row.storage 1
    + (flag_bit row.open_on 2 + (flag_bit row.told 4 + flag_bit (has_range row.range) 8))

-- The 29 octets of a row: identifier (2), kind (1), size (4), channel (1), flags (1), first (4),
-- count (4), behind (4), and the range's next (4) and end (4), which are 0 where there is no range.
abbrev pub row_octets : Row → List ℕ
row_octets row =
    big_bytes 2 row.identifier ++ kind_octet row.kind ∷ big_bytes 4 row.size
    ++ row.channel ∷ flags_of row ∷ big_bytes 4 row.first ++ big_bytes 4 row.count
    ++ big_bytes 4 row.behind ++ big_bytes 4 (range_next row.range) ++ big_bytes 4 (range_end row.range)

-- the octet of the flags
abbrev pub flags_in : List ℕ → ℕ
flags_in octets = slice_index octets 8

-- Whether 29 octets are there, and those of kind, flags and range are such as a row may have: a
-- kind of 0 or 1, no flag above 8, and no positions without a range.
abbrev pub is_row_text : List ℕ → Bool
is_row_text octets =
    nat_le 29 (length octets) && nat_le (slice_index octets 2) 1 && nat_lt (flags_in octets) 16
    && (nat_le 8 (flags_in octets) || (field 4 21 octets == 0 && field 4 25 octets == 0))

abbrev pub range_in : List ℕ → Option (ℕ × ℕ)
range_in octets =
    if nat_le 8 (flags_in octets) then Some (field 4 21 octets, field 4 25 octets) else None

abbrev pub row_by : List ℕ → Row
row_by octets = record {
  identifier = field 2 0 octets;
  kind = store_kind_in (slice_index octets 2);
  size = field 4 3 octets;
  channel = slice_index octets 7;
  storage = flags_in octets % 2 == 1;
  open_on = flags_in octets / 2 % 2 == 1;
  told = flags_in octets / 4 % 2 == 1;
  first = field 4 9 octets;
  count = field 4 13 octets;
  behind = field 4 17 octets;
  range = range_in octets;
}

-- the row that the 29 octets at the front spell
unfoldable pub row_in : List ℕ → Option Row
row_in octets = if is_row_text octets then Some (row_by octets) else None

-- each number of a row fits the octets that it has
pub record FitsRow (row : Row) : Type 0 where
  pub identifier : row.identifier < 2 ^ 16
  pub size : row.size < 2 ^ 32
  pub channel : row.channel < 2 ^ 8
  pub first : row.first < 2 ^ 32
  pub count : row.count < 2 ^ 32
  pub behind : row.behind < 2 ^ 32
  pub next : range_next row.range < 2 ^ 32
  pub end : range_end row.range < 2 ^ 32

abbrev pub is_range : (count : ℕ) → Option (ℕ × ℕ) → Bool
is_range count None = true
is_range count (Some (next, end)) = nat_lt next end && nat_le end count

-- Whether a row may stand: a size of 1 to 100,000 pages, a channel of 1 to 7, no more packets than
-- pages, and positions within the packets.
abbrev pub is_lawful_row : Row → Bool
is_lawful_row row =
    nat_le 1 row.size && nat_le row.size 100000 && nat_le 1 row.channel && nat_le row.channel 7
    && nat_le row.count row.size && nat_le row.behind row.count && is_range row.count row.range
