-- Space packets (CCSDS 133.0-B, 4.1), as lists of octets.
use Rattle.std.specs.Prelude.{◌≡◌, ◌≤◌, ℕ, ◌+◌, ◌/◌, ◌%◌, ◌==◌, nat_lt, Bool, not, if◌then◌else◌, List, length, Option, Some, None}
use Rattle.octet_fields.specs.Fields.{field}
use Rattle.space_packet.specs.declared.fault.PacketFault.{PacketFault}
use Rattle.space_packet.specs.declared.fault.PacketFault.TheVariants.{Short, Version, TooLarge, Long}

-- the fields of the primary header
abbrev pub version_of : List ℕ → ℕ
version_of octets = field 2 0 octets / 8192

abbrev pub is_command : List ℕ → Bool
is_command octets = field 2 0 octets / 4096 % 2 == 1

abbrev pub has_secondary : List ℕ → Bool
has_secondary octets = field 2 0 octets / 2048 % 2 == 1

abbrev pub apid_of : List ℕ → ℕ
apid_of octets = field 2 0 octets % 2048

abbrev pub sequence_flags_of : List ℕ → ℕ
sequence_flags_of octets = field 2 2 octets / 16384

abbrev pub sequence_count_of : List ℕ → ℕ
sequence_count_of octets = field 2 2 octets % 16384

-- the length that the header says: 6 octets of header, and one more than the packet data length
-- field
abbrev pub said_length : List ℕ → ℕ
said_length octets = 7 + field 2 4 octets

-- A whole packet: of version 0, as long as its header says, and no longer than is taken here.
pub record IsPacket (octets : List ℕ) : Type 0 where
  pub at_least : 7 ≤ length octets
  pub at_most : length octets ≤ 4096
  pub version : version_of octets ≡ 0
  pub whole : length octets ≡ said_length octets

-- the octets that a packet with this front needs
abbrev pub need_of : List ℕ → ℕ
need_of octets = if nat_lt (length octets) 6 then 6 else said_length octets

-- the first fault of octets that are no packet
abbrev pub fault_of : List ℕ → Option PacketFault
fault_of octets =
    if nat_lt (length octets) (need_of octets) then Some (Short (length octets) (need_of octets))
    else if not (version_of octets == 0) then Some (Version (version_of octets))
    else if nat_lt 4096 (need_of octets) then Some (TooLarge (need_of octets))
    else if nat_lt (need_of octets) (length octets)
    then Some (Long (length octets) (need_of octets))
    else None
