-- The head of a report of this program: the primary header of its packet (CCSDS 133.0-B, 4.1.3) and
-- its secondary header (ECSS-E-ST-70-41C, 7.4.3).
use Rattle.std.specs.Prelude.{◌+◌, ◌-◌, ◌*◌, ℕ, true, false, List, [], ◌∷◌, ◌++◌}
use Rattle.octet_fields.specs.Fields.{big_bytes}
use Rattle.space_packet.specs.declared.header.Primary.{Primary}
use Rattle.space_packet.specs.Header.{header_of}

-- telemetry of APID 10, unsegmented, with 13 octets of secondary header and `body` of data
abbrev pub report_primary : (count body : ℕ) → Primary
report_primary count body = record {
  command = false;
  secondary = true;
  apid = 10;
  flags = 3;
  count = count;
  length = 13 + body - 1;
}

-- PUS version 2 with time reference status 0, service, subtype, message type counter, destination,
-- time
abbrev pub report_secondary : (service subtype moment : ℕ) → List ℕ
report_secondary service subtype moment =
    (2 * 16 + 0) ∷ service ∷ subtype ∷ [] ++ big_bytes 2 0 ++ big_bytes 2 0 ++ big_bytes 6 moment

-- both headers, 19 octets
abbrev pub report_head : (count service subtype moment body : ℕ) → List ℕ
report_head count service subtype moment body =
    header_of (report_primary count body) ++ report_secondary service subtype moment
