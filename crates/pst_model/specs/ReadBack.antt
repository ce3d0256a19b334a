-- What the packet of a request reads back as.
use Rattle.std.specs.Prelude.{◌≡◌, ℕ, List, None}
use Rattle.space_packet.specs.Packet.{IsPacket, apid_of, sequence_count_of}
use Rattle.control_defs.specs.declared.instructions.Instruction.{Instruction}
use Rattle.pus_header.specs.Commands.{IsCommandPacket, acks_of, service_of, source_of, subtype_of}
use Rattle.pst_model.specs.Answers.{data_in}
use Rattle.pst_model.specs.Requests.{data_of, items_in, request_fault_of}

-- Octets that are a telecommand of APID 10 with this sequence count, these acknowledgement flags,
-- this service, this subtype and this source, whose data has no fault and spells these
-- instructions.
pub record ReadsBack (octets : List ℕ) (count acks service subtype source : ℕ)
    (items : List Instruction) : Type 0 where
  pub packet : IsPacket octets
  pub command : IsCommandPacket octets
  pub of_apid : apid_of octets ≡ 10
  pub in_sequence : sequence_count_of octets ≡ count
  pub with_acks : acks_of octets ≡ acks
  pub of_service : service_of octets ≡ service
  pub of_subtype : subtype_of octets ≡ subtype
  pub of_source : source_of octets ≡ source
  pub body : data_in octets ≡ data_of items
  pub faultless : request_fault_of service subtype (data_of items) ≡ None
  pub spelled : items_in service subtype (data_of items) ≡ items
