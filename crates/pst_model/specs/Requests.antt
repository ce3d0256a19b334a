-- Requests as octets: what stands behind the headers of a telecommand, and the instructions that it
-- spells.
use Rattle.std.specs.Prelude.{◌≡◌, ◌≤◌, ℕ, zero, suc, ◌+◌, ◌*◌, ◌-◌, ◌/◌, ◌%◌, ◌==◌, ◌&&◌, ◌||◌, nat_le, min, Bool, true, false, not, if◌then◌else◌, All, List, [], ◌∷◌, ◌++◌, length, drop, slice_index, Option, Some, None}
use Rattle.octet_fields.specs.Fields.{big_bytes}
use Rattle.space_packet.specs.declared.header.Primary.{Primary}
use Rattle.space_packet.specs.Header.{header_of}
use Rattle.control_defs.specs.declared.instructions.Instruction.{Instruction}
use Rattle.control_defs.specs.Instructions.{IsInstruction}
use Rattle.pst_model.specs.declared.faults.RequestFault.{RequestFault}
use Rattle.pst_model.specs.declared.faults.RequestFault.TheVariants.{UnknownService, UnknownSubtype, Malformed}
use Rattle.pst_model.specs.Items.{HasOctets, is_alone, item_of, kind_asked}
use Rattle.pst_model.specs.Layouts.{RequestKind, is_wrong_in, kind_in, width_of}
use Rattle.pst_model.specs.Least.{first_below}

-- The data of a request, as a relation: one octet with the number of items, and the items, which
-- are instructions of one kind. An instruction of a kind that stands alone has no number in front.

abbrev pub items_octets : List Instruction → List ℕ
items_octets [] = []
items_octets (item ∷ items) = item_of item ++ items_octets items

-- whether the first instruction is of a kind that stands alone
abbrev pub are_alone : List Instruction → Bool
are_alone [] = false
are_alone (item ∷ items) = is_alone item

-- the octets in front of the items
abbrev pub count_octets : List Instruction → List ℕ
count_octets items = if are_alone items then [] else length items ∷ []

abbrev pub data_of : List Instruction → List ℕ
data_of items = count_octets items ++ items_octets items

-- the most instructions of one request
abbrev pub most_of : List Instruction → ℕ
most_of items = if are_alone items then 1 else 32

-- the service type and message subtype that the first item asks for, and 0 where there is none
abbrev pub service_of_items : List Instruction → ℕ
service_of_items [] = 0
service_of_items (item ∷ items) = (kind_asked item).0

abbrev pub subtype_of_items : List Instruction → ℕ
subtype_of_items [] = 0
subtype_of_items (item ∷ items) = (kind_asked item).1

-- Instructions that one request can ask for, by this service type and message subtype.
pub record AreAsked (service subtype : ℕ) (items : List Instruction) : Type 0 where
  pub kind : All (λ (item : Instruction). kind_asked item ≡ (service, subtype)) items
  pub lawful : All IsInstruction items
  pub fit : All HasOctets items
  pub some : 1 ≤ length items
  pub few : length items ≤ most_of items

-- The data of a request of this service and subtype spells these instructions.
pub record SpellsRequest (service subtype : ℕ) (body : List ℕ)
    (items : List Instruction) : Type 0 where
  pub asked : AreAsked service subtype items
  pub octets : body ≡ data_of items

-- The same as functions of the octets, which compute, by the table of kinds.

-- the octets in front of the items
abbrev pub front_of : RequestKind → ℕ
front_of kind = if kind.is_list then 1 else 0

-- how many items there are
abbrev pub count_in : RequestKind → List ℕ → ℕ
count_in kind body = if kind.is_list then slice_index body 0 else 1

-- the place of an item, whose number counts from 0
abbrev pub place_of : RequestKind → (number : ℕ) → ℕ
place_of kind number = front_of kind + number * width_of kind.fields

-- the length that the data must have
abbrev pub length_asked : RequestKind → List ℕ → ℕ
length_asked kind body = place_of kind (count_in kind body)

-- the number of the item in which a place is, and how far behind the item's place
abbrev pub number_at : RequestKind → (place : ℕ) → ℕ
number_at kind place = (place - front_of kind) / width_of kind.fields

abbrev pub place_within : RequestKind → (place : ℕ) → ℕ
place_within kind place = (place - front_of kind) % width_of kind.fields

-- whether the octet at this place is wrong in its item
abbrev pub is_wrong_at : RequestKind → List ℕ → (place : ℕ) → Bool
is_wrong_at kind body place =
    nat_le (front_of kind) place
    && is_wrong_in kind.fields (drop (place_of kind (number_at kind place)) body)
    (place_within kind place)

-- The place where data is malformed: that of a count that is missing or not from 1 to 32, else that
-- of the first octet that is missing or too many, else that of the first octet that is wrong.
abbrev pub malformed_at : RequestKind → List ℕ → Option ℕ
malformed_at kind body =
    if not (nat_le 1 (count_in kind body) && nat_le (count_in kind body) 32) then Some 0
    else if not (length body == length_asked kind body)
    then Some (min (length body) (length_asked kind body))
    else first_below (is_wrong_at kind body) (length body)

abbrev pub malformed_by : Option ℕ → Option RequestFault
malformed_by (Some at) = Some (Malformed at)
malformed_by None = None

-- the first fault of a request
abbrev pub fault_by : (subtype : ℕ) → List ℕ → Option RequestKind → Option RequestFault
fault_by subtype body (Some kind) = malformed_by (malformed_at kind body)
fault_by subtype body None = Some (UnknownSubtype subtype)

abbrev pub request_fault_of : (service subtype : ℕ) → List ℕ → Option RequestFault
request_fault_of service subtype body =
    if not (service == 14 || service == 15) then Some (UnknownService service)
    else fault_by subtype body (kind_in service subtype)

-- the instructions of so many items
abbrev pub items_from : RequestKind → (count : ℕ) → List ℕ → List Instruction
items_from kind zero octets = []
items_from kind (suc count) octets =
    kind.spelled octets ∷ items_from kind count (drop (width_of kind.fields) octets)

-- the instructions that the data of a request spells, where it has no fault
abbrev pub items_by : List ℕ → Option RequestKind → List Instruction
items_by body (Some kind) = items_from kind (count_in kind body) (drop (front_of kind) body)
items_by body None = []

abbrev pub items_in : (service subtype : ℕ) → List ℕ → List Instruction
items_in service subtype body = items_by body (kind_in service subtype)

-- A request as a packet: a telecommand of APID 10, unsegmented, with these acknowledgement flags,
-- this source and the data of the instructions (CCSDS 133.0-B, 4.1.3; ECSS-E-ST-70-41C, 7.4.4).

abbrev pub request_primary : (count size : ℕ) → Primary
request_primary count size = record {
  command = true;
  secondary = true;
  apid = 10;
  flags = 3;
  count = count;
  length = 5 + size - 1;
}

abbrev pub request_secondary : (acks service subtype source : ℕ) → List ℕ
request_secondary acks service subtype source =
    (2 * 16 + acks) ∷ service ∷ subtype ∷ [] ++ big_bytes 2 source

abbrev pub request_packet : (count acks service subtype source : ℕ) → List Instruction → List ℕ
request_packet count acks service subtype source items =
    header_of (request_primary count (length (data_of items)))
    ++ request_secondary acks service subtype source ++ data_of items
