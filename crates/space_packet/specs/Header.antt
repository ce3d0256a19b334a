-- The primary header of a space packet (CCSDS 133.0-B, 4.1.3), from its fields.
use Rattle.std.specs.Prelude.{◌≡◌, ◌<◌, ℕ, ◌+◌, ◌*◌, ◌++◌, List}
use Rattle.std.specs.Int.{from_bool}
use Rattle.octet_fields.specs.Fields.{big_bytes, field}
use Rattle.space_packet.specs.Packet.{apid_of, has_secondary, is_command, sequence_count_of, sequence_flags_of}
use Rattle.space_packet.specs.declared.header.Primary.{Primary}

-- each field is within its bits
pub record FieldsFit (head : Primary) : Type 0 where
  pub apid : head.apid < 2048
  pub flags : head.flags < 4
  pub count : head.count < 16384

-- packet identification: version 0 (3 bits), type (1), secondary header flag (1), APID (11)
abbrev pub identification_of : Primary → ℕ
identification_of head = from_bool head.command * 4096 + from_bool head.secondary * 2048 + head.apid

-- packet sequence control: sequence flags (2 bits), sequence count (14)
abbrev pub sequence_of : Primary → ℕ
sequence_of head = head.flags * 16384 + head.count

-- the six octets: packet identification, packet sequence control and packet data length, two octets
-- each
abbrev pub header_of : Primary → List ℕ
header_of head =
    big_bytes 2 (identification_of head) ++ big_bytes 2 (sequence_of head)
    ++ big_bytes 2 head.length

-- octets whose header has these fields
pub record HasFields (octets : List ℕ) (head : Primary) : Type 0 where
  pub command : is_command octets ≡ head.command
  pub secondary : has_secondary octets ≡ head.secondary
  pub apid : apid_of octets ≡ head.apid
  pub flags : sequence_flags_of octets ≡ head.flags
  pub count : sequence_count_of octets ≡ head.count
  pub data_length : field 2 4 octets ≡ head.length
