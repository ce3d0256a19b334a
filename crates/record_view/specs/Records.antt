-- The records that the octets of a block spell.
use Rattle.std.specs.Prelude.{◌≡◌, ◌≤◌, ℕ, zero, suc, ◌+◌, ◌-◌, ◌*◌, ◌%◌, Bool, ◌&&◌, ◌==◌, nat_le, is_none, if◌then◌else◌, List, [], ◌∷◌, length, take, drop, Option, Some, None}
use Rattle.octet_fields.specs.Fields.{field}
use Rattle.space_packet.specs.Charge.{charge_of}
use Rattle.space_packet.specs.Packet.{IsPacket, fault_of}

-- a record: its number, when its packet arrived, and the octets of its packet
pub record Meaning : Type 0 where
  pub number : ℕ
  pub stamp : ℕ
  pub packet : List ℕ

-- the packet's length that stands in the head at a page
abbrev pub length_at : List ℕ → ℕ → ℕ
length_at block page = field 2 (256 * page + 10) block

-- whether a page has the head of the record with this number, whose pages lie in the block
abbrev pub has_head : List ℕ → ℕ → ℕ → Bool
has_head block number page =
    (field 4 (256 * page + 6) block == number)
    && (field 4 (256 * page + 12) block == 0)
    && nat_le (page + charge_of (length_at block page)) 256

-- as many octets after the head as it says
abbrev pub packet_at : List ℕ → ℕ → List ℕ
packet_at block page = take (length_at block page) (drop (256 * page + 16) block)

abbrev pub meaning_at : List ℕ → ℕ → ℕ → Meaning
meaning_at block number page = record {
  number = number;
  stamp = field 6 (256 * page) block;
  packet = packet_at block page;
}

-- the record with this number that begins at a page
unfoldable pub record_at : List ℕ → ℕ → ℕ → Option Meaning
record_at block number page =
    if has_head block number page && is_none (fault_of (packet_at block page))
    then Some (meaning_at block number page) else None

-- the number after this one
abbrev pub number_after : ℕ → ℕ
number_after number = (number + 1) % 4294967296

-- a record with those after it, and none if there is no record
abbrev pub with_next : Option Meaning → (Meaning → List Meaning) → List Meaning
with_next None next = []
with_next (Some meaning) next = meaning ∷ next meaning

-- the records from a page on whose numbers rise by one from this one on, at most so many of them
unfoldable pub records_from : ℕ → List ℕ → ℕ → ℕ → List Meaning
records_from zero block number page = []
records_from (suc count) block number page =
    with_next (record_at block number page)
    (λ meaning. records_from count block (number_after number)
    (page + charge_of (length meaning.packet)))

-- how far the records of a block were read: the number and the page of the next one, and how many
-- may still be given
pub record Reading : Type 0 where
  pub block : List ℕ
  pub number : ℕ
  pub left : ℕ
  pub page : ℕ

-- the records that are not given yet
abbrev pub records_left : Reading → List Meaning
records_left reading = records_from reading.left reading.block reading.number reading.page

-- after this record was given
abbrev pub moved : Meaning → Reading → Reading
moved meaning reading = record {
  block = reading.block;
  number = number_after reading.number;
  left = reading.left - 1;
  page = reading.page + charge_of (length meaning.packet);
}

-- a page of a block spells the record with this number
pub record Spells (block : List ℕ) (number page : ℕ) (meaning : Meaning) : Type 0 where
  pub same_number : meaning.number ≡ number
  pub number_there : field 4 (256 * page + 6) block ≡ number
  pub zeros : field 4 (256 * page + 12) block ≡ 0
  pub stamp : field 6 (256 * page) block ≡ meaning.stamp
  pub said_length : length_at block page ≡ length meaning.packet
  pub packet_there : take (length meaning.packet) (drop (256 * page + 16) block) ≡ meaning.packet
  pub packet : IsPacket meaning.packet
  pub within : page + charge_of (length meaning.packet) ≤ 256
