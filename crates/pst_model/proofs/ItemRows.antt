-- Requests of each layout on worked octets, by computation.
use Rattle.std.proofs.Common.{◌≡◌, ℕ, List, [], ◌∷◌, ◌++◌, refl, Some, None}
use Rattle.std.specs.Prelude.{map, replicate}
use Rattle.control_defs.specs.declared.instructions.Instruction.{Instruction}
use Rattle.control_defs.specs.declared.instructions.Instruction.TheVariants.{ForwardAdd, ForwardDelete, ForwardReport, Enable, Disable, AddTypes, DeleteTypes, ReportTypes, StartRange, DeleteUpTo, Summary, OpenFrom, Resume, Suspend, Abort, Status, Create, Remove, Configuration, Copy, Resize, ToCircular, ToBounded, Channel}
use Rattle.control_defs.specs.declared.instructions.StoreKind.TheVariants.{Circular, Bounded}
use Rattle.control_defs.specs.declared.patterns.Pattern.TheVariants.{Every, App, Service, Kind}
use Rattle.pst_model.specs.declared.faults.RequestFault.TheVariants.{Malformed}
use Rattle.pst_model.specs.Layouts.{RequestKind, kinds, width_of}
use Rattle.pst_model.specs.Requests.{data_of, items_in, request_fault_of}

-- data that spells one instruction, written and read
abbrev IsOne : (service subtype : ℕ) → List ℕ → Instruction → Type 0
IsOne service subtype body item =
    (data_of (item ∷ []) ≡ body) × (request_fault_of service subtype body ≡ None) × (items_in service subtype body ≡ item ∷ [])

-- the widths of items, in the order of the table
widths : map (λ (kind : RequestKind). width_of kind.fields) kinds
    ≡ 5 ∷ 5 ∷ 0 ∷ 2 ∷ 2 ∷ 7 ∷ 7 ∷ 2 ∷ 14 ∷ 8 ∷ 2 ∷ 8 ∷ 2 ∷ 2 ∷ 2 ∷ 0 ∷ 8 ∷ 2 ∷ 0 ∷ 16 ∷ 6 ∷ 2 ∷ 2 ∷ 3 ∷ []
widths = refl

-- each form of a pattern
every : IsOne 14 1 (1 ∷ 0 ∷ 0 ∷ 0 ∷ 0 ∷ 0 ∷ []) (ForwardAdd Every)
every = (refl, refl, refl)

app : IsOne 14 2 (1 ∷ 1 ∷ 0x07 ∷ 0xff ∷ 0 ∷ 0 ∷ []) (ForwardDelete (App 2047))
app = (refl, refl, refl)

service : IsOne 14 1 (1 ∷ 2 ∷ 0x01 ∷ 0x02 ∷ 3 ∷ 0 ∷ []) (ForwardAdd (Service 258 3))
service = (refl, refl, refl)

kind : IsOne 14 1 (1 ∷ 3 ∷ 0 ∷ 0 ∷ 255 ∷ 254 ∷ []) (ForwardAdd (Kind 0 255 254))
kind = (refl, refl, refl)

-- instructions alone, with no data and with a store
forward_report : IsOne 14 3 [] ForwardReport
forward_report = (refl, refl, refl)

status : IsOne 15 18 [] Status
status = (refl, refl, refl)

configuration : IsOne 15 22 [] Configuration
configuration = (refl, refl, refl)

report_types : IsOne 15 5 (0x01 ∷ 0x02 ∷ []) (ReportTypes 258)
report_types = (refl, refl, refl)

-- a store, for each kind that has nothing else
enable : IsOne 15 1 (1 ∷ 0 ∷ 7 ∷ []) (Enable 7)
enable = (refl, refl, refl)

disable : IsOne 15 2 (1 ∷ 0 ∷ 7 ∷ []) (Disable 7)
disable = (refl, refl, refl)

summary : IsOne 15 12 (1 ∷ 0 ∷ 7 ∷ []) (Summary 7)
summary = (refl, refl, refl)

resume : IsOne 15 15 (1 ∷ 0 ∷ 7 ∷ []) (Resume 7)
resume = (refl, refl, refl)

suspend : IsOne 15 16 (1 ∷ 0 ∷ 7 ∷ []) (Suspend 7)
suspend = (refl, refl, refl)

abort : IsOne 15 17 (1 ∷ 0 ∷ 7 ∷ []) (Abort 7)
abort = (refl, refl, refl)

remove : IsOne 15 21 (1 ∷ 0 ∷ 7 ∷ []) (Remove 7)
remove = (refl, refl, refl)

to_circular : IsOne 15 26 (1 ∷ 0 ∷ 7 ∷ []) (ToCircular 7)
to_circular = (refl, refl, refl)

to_bounded : IsOne 15 27 (1 ∷ 0 ∷ 7 ∷ []) (ToBounded 7)
to_bounded = (refl, refl, refl)

-- a store and more
add_types : IsOne 15 3 (1 ∷ 0 ∷ 7 ∷ 2 ∷ 0x01 ∷ 0x02 ∷ 3 ∷ 0 ∷ []) (AddTypes 7 (Service 258 3))
add_types = (refl, refl, refl)

delete_types : IsOne 15 4 (1 ∷ 0 ∷ 7 ∷ 0 ∷ 0 ∷ 0 ∷ 0 ∷ 0 ∷ []) (DeleteTypes 7 Every)
delete_types = (refl, refl, refl)

start_range : IsOne 15 9 (1 ∷ 0 ∷ 7 ∷ 0 ∷ 0 ∷ 0 ∷ 0 ∷ 1 ∷ 2 ∷ 0xff ∷ 0xff ∷ 0xff ∷ 0xff ∷ 0xff ∷ 0xfe ∷ []) (StartRange 7 0x102 0xfffffffffffe)
start_range = (refl, refl, refl)

delete_up_to : IsOne 15 11 (1 ∷ 0 ∷ 7 ∷ 1 ∷ 2 ∷ 3 ∷ 4 ∷ 5 ∷ 6 ∷ []) (DeleteUpTo 7 0x010203040506)
delete_up_to = (refl, refl, refl)

open_from : IsOne 15 14 (1 ∷ 0 ∷ 7 ∷ 1 ∷ 2 ∷ 3 ∷ 4 ∷ 5 ∷ 6 ∷ []) (OpenFrom 7 0x010203040506)
open_from = (refl, refl, refl)

create_circular : IsOne 15 20 (1 ∷ 0 ∷ 7 ∷ 0 ∷ 1 ∷ 2 ∷ 3 ∷ 4 ∷ 255 ∷ []) (Create 7 Circular 0x01020304 255)
create_circular = (refl, refl, refl)

create_bounded : IsOne 15 20 (1 ∷ 0 ∷ 7 ∷ 1 ∷ 0 ∷ 0 ∷ 0 ∷ 64 ∷ 1 ∷ []) (Create 7 Bounded 64 1)
create_bounded = (refl, refl, refl)

copy : IsOne 15 24 (1 ∷ 0 ∷ 7 ∷ 0 ∷ 8 ∷ 0 ∷ 0 ∷ 0 ∷ 0 ∷ 0 ∷ 1 ∷ 0 ∷ 0 ∷ 0 ∷ 0 ∷ 0 ∷ 2 ∷ []) (Copy 7 8 1 2)
copy = (refl, refl, refl)

resize : IsOne 15 25 (1 ∷ 0 ∷ 7 ∷ 0xff ∷ 0xff ∷ 0xff ∷ 0xfe ∷ []) (Resize 7 0xfffffffe)
resize = (refl, refl, refl)

channel : IsOne 15 28 (1 ∷ 0 ∷ 7 ∷ 255 ∷ []) (Channel 7 255)
channel = (refl, refl, refl)

-- The octets that are wrong, in the second of two items: those of a pattern, each field that its
-- form does not use, and the octet of a store's kind.
abbrev first_item : List ℕ
first_item = 2 ∷ 0 ∷ 7 ∷ 0 ∷ 0 ∷ 0 ∷ 0 ∷ 0 ∷ 0 ∷ 7 ∷ []

form_4 : request_fault_of 15 3 (first_item ++ 4 ∷ 0 ∷ 0 ∷ 0 ∷ 0 ∷ []) ≡ Some (Malformed 10)
form_4 = refl

apid_2048 : request_fault_of 15 3 (first_item ++ 1 ∷ 0x08 ∷ 0x00 ∷ 0 ∷ 0 ∷ []) ≡ Some (Malformed 11)
apid_2048 = refl

-- the first octet other than 0 of an APID that is not used
low_apid_of_every : request_fault_of 14 1 (1 ∷ 0 ∷ 0x00 ∷ 0x07 ∷ 0 ∷ 0 ∷ []) ≡ Some (Malformed 3)
low_apid_of_every = refl

high_apid_of_every : request_fault_of 14 1 (1 ∷ 0 ∷ 0x01 ∷ 0x07 ∷ 0 ∷ 0 ∷ []) ≡ Some (Malformed 2)
high_apid_of_every = refl

apid_of_every : request_fault_of 15 3 (first_item ++ 0 ∷ 0 ∷ 1 ∷ 0 ∷ 0 ∷ []) ≡ Some (Malformed 12)
apid_of_every = refl

highest_apid_of_every : request_fault_of 14 2 (1 ∷ 0 ∷ 0xff ∷ 0xff ∷ 1 ∷ 1 ∷ []) ≡ Some (Malformed 2)
highest_apid_of_every = refl

service_of_every : request_fault_of 15 3 (first_item ++ 0 ∷ 0 ∷ 0 ∷ 1 ∷ 0 ∷ []) ≡ Some (Malformed 13)
service_of_every = refl

subtype_of_every : request_fault_of 15 3 (first_item ++ 0 ∷ 0 ∷ 0 ∷ 0 ∷ 1 ∷ []) ≡ Some (Malformed 14)
subtype_of_every = refl

service_of_app : request_fault_of 15 4 (first_item ++ 1 ∷ 0x07 ∷ 0xff ∷ 1 ∷ 1 ∷ []) ≡ Some (Malformed 13)
service_of_app = refl

subtype_of_app : request_fault_of 15 4 (first_item ++ 1 ∷ 0x07 ∷ 0xff ∷ 0 ∷ 1 ∷ []) ≡ Some (Malformed 14)
subtype_of_app = refl

subtype_of_service : request_fault_of 15 4 (first_item ++ 2 ∷ 0x07 ∷ 0xff ∷ 1 ∷ 1 ∷ []) ≡ Some (Malformed 14)
subtype_of_service = refl

kind_2 : request_fault_of 15 20 (2 ∷ 0 ∷ 7 ∷ 1 ∷ 0 ∷ 0 ∷ 0 ∷ 64 ∷ 1 ∷ 0 ∷ 8 ∷ 2 ∷ 0 ∷ 0 ∷ 0 ∷ 64 ∷ 1 ∷ []) ≡ Some (Malformed 11)
kind_2 = refl

-- the first of two wrong octets, and a wrong octet in data that is too short or too long
first_wrong : request_fault_of 14 1 (2 ∷ 1 ∷ 0x08 ∷ 0 ∷ 0 ∷ 1 ∷ 4 ∷ 0 ∷ 0 ∷ 0 ∷ 0 ∷ []) ≡ Some (Malformed 2)
first_wrong = refl

length_first : request_fault_of 14 1 (1 ∷ 4 ∷ 0 ∷ 0 ∷ 0 ∷ []) ≡ Some (Malformed 5)
length_first = refl

too_long_first : request_fault_of 14 1 (1 ∷ 4 ∷ 0 ∷ 0 ∷ 0 ∷ 0 ∷ 0 ∷ []) ≡ Some (Malformed 6)
too_long_first = refl

-- instructions alone, with too few octets and too many
no_store : request_fault_of 15 5 [] ≡ Some (Malformed 0)
no_store = refl

half_a_store : request_fault_of 15 5 (7 ∷ []) ≡ Some (Malformed 1)
half_a_store = refl

more_than_a_store : request_fault_of 15 5 (1 ∷ 0 ∷ 7 ∷ []) ≡ Some (Malformed 2)
more_than_a_store = refl

more_than_nothing : request_fault_of 15 18 (0 ∷ []) ≡ Some (Malformed 0)
more_than_nothing = refl

-- the most items of the widest kind
most_copies : request_fault_of 15 24 (32 ∷ replicate 512 7) ≡ None
most_copies = refl

too_many_patterns : request_fault_of 14 2 (33 ∷ replicate 165 0) ≡ Some (Malformed 0)
too_many_patterns = refl
