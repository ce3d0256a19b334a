-- Requests on worked octets, by computation.
use Rattle.std.proofs.Common.{◌≡◌, [], ◌∷◌, ◌++◌, refl, Some, None}
use Rattle.std.specs.Prelude.{replicate}
use Rattle.control_defs.specs.declared.instructions.Instruction.TheVariants.{Enable, Disable, Resume, Suspend, ForwardReport}
use Rattle.pst_model.specs.declared.faults.RequestFault.TheVariants.{UnknownService, UnknownSubtype, Malformed}
use Rattle.pst_model.specs.Requests.{items_in, request_fault_of, request_packet, service_of_items, subtype_of_items}

-- the count: one item, two, the most, and none, too many or no count at all
one : request_fault_of 15 1 (1 ∷ 0x01 ∷ 0x02 ∷ []) ≡ None
one = refl

two : request_fault_of 15 2 (2 ∷ 0 ∷ 1 ∷ 0 ∷ 2 ∷ []) ≡ None
two = refl

most : request_fault_of 15 15 (32 ∷ replicate 64 7) ≡ None
most = refl

none : request_fault_of 15 16 (0 ∷ []) ≡ Some (Malformed 0)
none = refl

too_many : request_fault_of 15 1 (33 ∷ replicate 66 7) ≡ Some (Malformed 0)
too_many = refl

no_count : request_fault_of 15 1 [] ≡ Some (Malformed 0)
no_count = refl

-- the octets: one that is missing, all of them, and one too many
one_missing : request_fault_of 15 1 (2 ∷ 0 ∷ 1 ∷ 0 ∷ []) ≡ Some (Malformed 4)
one_missing = refl

all_missing : request_fault_of 15 1 (2 ∷ []) ≡ Some (Malformed 1)
all_missing = refl

one_too_many : request_fault_of 15 1 (1 ∷ 0 ∷ 1 ∷ 0 ∷ []) ≡ Some (Malformed 3)
one_too_many = refl

-- services and subtypes that are not known, whatever the data
service_below : request_fault_of 13 1 (1 ∷ 0 ∷ 1 ∷ []) ≡ Some (UnknownService 13)
service_below = refl

service_above : request_fault_of 17 0 [] ≡ Some (UnknownService 17)
service_above = refl

subtype_0 : request_fault_of 15 0 (1 ∷ 0 ∷ 1 ∷ []) ≡ Some (UnknownSubtype 0)
subtype_0 = refl

subtype_10 : request_fault_of 15 10 (1 ∷ 0 ∷ 1 ∷ []) ≡ Some (UnknownSubtype 10)
subtype_10 = refl

subtype_29 : request_fault_of 15 29 [] ≡ Some (UnknownSubtype 29)
subtype_29 = refl

subtype_4_of_14 : request_fault_of 14 4 (1 ∷ 0 ∷ 1 ∷ []) ≡ Some (UnknownSubtype 4)
subtype_4_of_14 = refl

-- what lists of stores spell
enabled : items_in 15 1 (1 ∷ 0x01 ∷ 0x02 ∷ []) ≡ Enable 258 ∷ []
enabled = refl

disabled : items_in 15 2 (2 ∷ 0 ∷ 1 ∷ 0 ∷ 2 ∷ []) ≡ Disable 1 ∷ Disable 2 ∷ []
disabled = refl

resumed : items_in 15 15 (1 ∷ 0xff ∷ 0xff ∷ []) ≡ Resume 65535 ∷ []
resumed = refl

suspended : items_in 15 16 (1 ∷ 0 ∷ 0 ∷ []) ≡ Suspend 0 ∷ []
suspended = refl

-- a request of two items, octet by octet
written : request_packet 3 9 15 2 5 (Disable 1 ∷ Disable 2 ∷ [])
    ≡ (0x18 ∷ 0x0a ∷ 0xc0 ∷ 0x03 ∷ 0x00 ∷ 0x09 ∷ []) ++ (0x29 ∷ 0x0f ∷ 0x02 ∷ 0x00 ∷ 0x05 ∷ []) ++ 0x02 ∷ 0x00 ∷ 0x01 ∷ 0x00 ∷ 0x02 ∷ []
written = refl

first_subtype : subtype_of_items (Suspend 1 ∷ Disable 2 ∷ []) ≡ 16
first_subtype = refl

no_subtype : subtype_of_items [] ≡ 0
no_subtype = refl

first_service : service_of_items (ForwardReport ∷ []) ≡ 14
first_service = refl
