-- The packet of a request reads back as what it was made of.
use Rattle.std.proofs.Common.{◌≡◌, ℕ, ◌+◌, ◌-◌, ◌*◌, ◌<◌, ◌≤◌, List, ◌++◌, length, drop, refl, arith}
use Rattle.byteorder.specs.Numbers.{big_number-reads_back}
use Rattle.octet_fields.specs.Fields.{field}
use Rattle.space_packet.specs.Header.{header_of}
use Rattle.space_packet.specs.Packet.{IsPacket, sequence_count_of}
use Rattle.pus_header.specs.Commands.{IsCommandPacket, source_of}
use Rattle.control_defs.specs.declared.instructions.Instruction.{Instruction}
use Rattle.pst_model.specs.ReadBack.{ReadsBack}
use Rattle.pst_model.specs.Requests.{AreAsked, data_of, request_packet, request_primary, request_secondary}
use Rattle.pst_model.proofs.RequestData.{length-data_most}
use Rattle.pst_model.proofs.SpelledRequests.{items_in-data_of, none-data_of}

-- the packet of a request with this data
abbrev packet_with : (count acks service subtype source : ℕ) → List ℕ → List ℕ
packet_with count acks service subtype source body = header_of (request_primary count (length body)) ++ request_secondary acks service subtype source ++ body

module _ (count acks service subtype source : ℕ) (body : List ℕ) where
  packet-with : length body ≤ 4085 → IsPacket (packet_with count acks service subtype source body)
  packet-with few =
      let said : field 2 4 (packet_with count acks service subtype source body) ≡ 5 + length body - 1 =
      big_number-reads_back 2 (5 + length body - 1) (request_secondary acks service subtype source ++ body) (omega arith) in record {
        at_least = omega arith;
        at_most = omega arith;
        version = refl;
        whole = omega (arith, said);
      }

  command-with : acks < 16 → IsCommandPacket (packet_with count acks service subtype source body)
  command-with fits = record { command = refl; secondary = refl; long = omega arith; version = omega arith }

  sequence-with : count < 16384 → sequence_count_of (packet_with count acks service subtype source body) ≡ count
  sequence-with fits =
      let is : field 2 2 (packet_with count acks service subtype source body) ≡ 3 * 16384 + count =
      big_number-reads_back 2 (3 * 16384 + count) (drop 4 (packet_with count acks service subtype source body)) (omega arith) in
      omega (arith, is)

  source-with : source < 65536 → source_of (packet_with count acks service subtype source body) ≡ source
  source-with fits = big_number-reads_back 2 source body fits

pub ReadsBack-packet : (count acks service subtype source : ℕ) (items : List Instruction) → count < 16384 → acks < 16 → source < 65536 → AreAsked service subtype items
    → ReadsBack (request_packet count acks service subtype source items) count acks service subtype source items
ReadsBack-packet count acks service subtype source items count_fits acks_fit source_fits asked =
    let octets = length-data_most service subtype items asked in record {
      packet = packet-with count acks service subtype source (data_of items) (omega arith);
      command = command-with count acks service subtype source (data_of items) acks_fit;
      of_apid = refl;
      in_sequence = sequence-with count acks service subtype source (data_of items) count_fits;
      with_acks = omega arith;
      of_service = refl;
      of_subtype = refl;
      of_source = source-with count acks service subtype source (data_of items) source_fits;
      body = refl;
      faultless = none-data_of service subtype items asked;
      spelled = items_in-data_of service subtype items asked;
    }
