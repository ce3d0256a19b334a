-- The key of a packet, from its octets (ECSS-E-ST-70-41C, 7.4.3).
use Rattle.std.specs.Prelude.{◌≡◌, ◌≤◌, ◌==◌, ◌&&◌, ◌/◌, ℕ, nat_le, Bool, true, false, not, if◌then◌else◌, List, length, slice_index, Some, None}
use Rattle.space_packet.specs.Packet.{apid_of, has_secondary, is_command}
use Rattle.control_defs.specs.declared.keys.Key.{Key}

-- the PUS version number: the high four bits of the octet behind the primary header
abbrev pub pus_version : List ℕ → ℕ
pus_version octets = slice_index octets 6 / 16

-- Telemetry with a whole secondary header: 13 octets, behind 6 of the primary header.
pub record IsReport (octets : List ℕ) : Type 0 where
  pub telemetry : is_command octets ≡ false
  pub secondary : has_secondary octets ≡ true
  pub long : 19 ≤ length octets
  pub version : pus_version octets ≡ 2

-- the same, as a test
abbrev pub is_report : List ℕ → Bool
is_report octets =
    not (is_command octets) && has_secondary octets && nat_le 19 (length octets)
    && pus_version octets == 2

-- the key, with the service and the subtype of a report
abbrev pub key_of : List ℕ → Key
key_of octets = record {
  apid = apid_of octets;
  kind = if is_report octets then Some (slice_index octets 7, slice_index octets 8) else None;
}
