-- Telecommands with a secondary header (ECSS-E-ST-70-41C, 7.4.4), as lists of octets.
use Rattle.std.specs.Prelude.{◌≡◌, ◌≤◌, ◌==◌, ◌||◌, ◌%◌, ℕ, nat_lt, true, not, if◌then◌else◌, List, length, take, slice_index, Option, Some, None}
use Rattle.octet_fields.specs.Fields.{field}
use Rattle.space_packet.specs.Packet.{has_secondary, is_command}
use Rattle.pus_header.specs.Keys.{pus_version}
use Rattle.pus_header.specs.declared.faults.TcFault.{TcFault}
use Rattle.pus_header.specs.declared.faults.TcFault.TheVariants.{NotCommand, NoHeader, WrongVersion}

-- A telecommand with a whole secondary header: 5 octets, behind 6 of the primary header.
pub record IsCommandPacket (octets : List ℕ) : Type 0 where
  pub command : is_command octets ≡ true
  pub secondary : has_secondary octets ≡ true
  pub long : 11 ≤ length octets
  pub version : pus_version octets ≡ 2

-- the fields of its secondary header, behind the version
abbrev pub acks_of : List ℕ → ℕ
acks_of octets = slice_index octets 6 % 16

abbrev pub service_of : List ℕ → ℕ
service_of octets = slice_index octets 7

abbrev pub subtype_of : List ℕ → ℕ
subtype_of octets = slice_index octets 8

abbrev pub source_of : List ℕ → ℕ
source_of octets = field 2 9 octets

-- the request identifier, by which reports of service 1 name a request, whatever packet that is
abbrev pub identifier_of : List ℕ → List ℕ
identifier_of packet = take 4 packet

-- the first fault of a packet as a telecommand
abbrev pub tc_fault_of : List ℕ → Option TcFault
tc_fault_of octets =
    if not (is_command octets) then Some NotCommand
    else if not (has_secondary octets) || nat_lt (length octets) 11 then Some NoHeader
    else if not (pus_version octets == 2) then Some (WrongVersion (pus_version octets))
    else None
