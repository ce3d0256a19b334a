-- The traffic that is generated from a number: requests, then arrivals with grants, idle times and two
-- retrievals among them, then grants.
use Rattle.std.specs.Prelude.{ℕ, zero, suc, ◌+◌, ◌-◌, ◌*◌, ◌/◌, ◌%◌, ◌^◌, ◌==◌, Bool, true, false, if◌then◌else◌, nat_le, List, [], ◌∷◌, ◌++◌, map}
use Rattle.std.specs.List.{range_with_len}
use Rattle.octet_fields.specs.Fields.{big_bytes}
use Rattle.space_packet.specs.Header.{header_of}
use Rattle.space_packet.specs.declared.header.Primary.{Primary}
use Rattle.control_defs.specs.declared.instructions.Instruction.{Instruction}
use Rattle.control_defs.specs.declared.instructions.Instruction.TheVariants as items
use Rattle.control_defs.specs.declared.instructions.StoreKind.TheVariants.{Circular, Bounded}
use Rattle.control_defs.specs.declared.patterns.Pattern.TheVariants.{App, Service, Kind}
use Rattle.pst_model.specs.Command.{Command, Arrival, Request, Grant, Idle}
use Rattle.pst_model.specs.Requests.{request_packet, service_of_items, subtype_of_items}
use Rattle.traffic_gen.specs.Lines.{text_of}

-- a draw makes the next state of this one, and gives its high bits
abbrev pub draw : ℕ → ℕ
draw state = (state * 6364136223846793005 + 1442695040888963407) % 2 ^ 64

abbrev pub drawn : ℕ → ℕ
drawn state = state / 2 ^ 33

-- the time of the arrival with this number, counted from 0
abbrev pub time_of : ℕ → ℕ
time_of number = 65536 + 64 * number

-- what kind of report an arrival is, by a draw: service and subtype
abbrev pub service_by : ℕ → ℕ
service_by draw = if nat_le (draw % 4) 1 then 3 else if draw % 4 == 2 then 5 else 1

abbrev pub subtype_by : ℕ → ℕ
subtype_by draw = if nat_le (draw % 4) 1 then 25 else if draw % 4 == 2 then 2 else 7

-- its length in octets, by a draw
abbrev pub length_by : ℕ → ℕ
length_by draw = 60 + draw % 1041

-- so many octets that count on from the number
abbrev pub counting : (number count : ℕ) → List ℕ
counting number count = map (λ j. (number + j) % 256) (range_with_len 0 count)

-- the primary header of an arrival
abbrev pub arrival_head : (number a c : ℕ) → Primary
arrival_head number a c = record {
  command = false;
  secondary = true;
  apid = 100 + a % 4;
  flags = 3;
  count = number % 16384;
  length = length_by c - 7;
}

-- The packet of an arrival with this number, by three draws: a report of PUS version 2 with its time, and behind its
-- headers octets that count on from the number.
abbrev pub arrival_packet : (number a b c : ℕ) → List ℕ
arrival_packet number a b c =
    header_of (arrival_head number a c)
    ++ (32 ∷ service_by b ∷ subtype_by b ∷ 0 ∷ 0 ∷ 0 ∷ 0 ∷ [] ++ big_bytes 6 (time_of number))
    ++ counting number (length_by c - 19)

-- a request for instructions, with this sequence count and acknowledgement flags 9
abbrev pub asking : (moment count : ℕ) → List Instruction → Command
asking moment count items =
    Request moment (request_packet count 9 (service_of_items items) (subtype_of_items items) 0 items)

-- The requests that it begins with: three stores are made, they get patterns and are enabled, one kind of report is
-- forwarded, and an open retrieval is resumed.
abbrev pub making : Command
making = asking 1 0 (items.Create 2 Circular 1000 2 ∷ items.Create 3 Bounded 2000 3 ∷ items.Create 4 Circular 200 4 ∷ [])

abbrev pub typing : Command
typing = asking 1 1 (items.AddTypes 2 (App 100) ∷ items.AddTypes 3 (Service 101 3) ∷ items.AddTypes 4 (Kind 102 5 2) ∷ [])

abbrev pub enabling : Command
enabling = asking 1 2 (items.Enable 2 ∷ items.Enable 3 ∷ items.Enable 4 ∷ [])

abbrev pub forwarding : Command
forwarding = asking 1 3 (items.ForwardAdd (Service 103 5) ∷ [])

abbrev pub resuming : Command
resuming = asking 1 4 (items.Resume 2 ∷ [])

abbrev pub setup : List Command
setup = making ∷ typing ∷ enabling ∷ forwarding ∷ resuming ∷ []

-- these commands where the test holds
abbrev pub where_so : Bool → Command → List Command
where_so true command = command ∷ []
where_so false command = []

-- the retrieval of a store, from the first arrival to this one
abbrev pub retrieval : (number count store : ℕ) → Command
retrieval number count store = asking (time_of number) count (items.StartRange store 65536 (time_of number) ∷ [])

-- the state behind three draws
abbrev pub after_draws : ℕ → ℕ
after_draws state = draw (draw (draw state))

-- the packet of the arrival with this number, by the three draws from this state on
abbrev pub drawn_packet : (number state : ℕ) → List ℕ
drawn_packet number state =
    arrival_packet number (drawn (draw state)) (drawn (draw (draw state))) (drawn (after_draws state))

-- what comes with the arrival of this number, of so many, from this state on
abbrev pub pass : (total number state : ℕ) → List Command
pass total number state =
    Arrival (time_of number) (drawn_packet number state)
    ∷ where_so (number % 4 == 3) (Grant (time_of number))
    ++ where_so (number % 64 == 63) (Idle (time_of number))
    ++ where_so (number == total / 2) (retrieval number 5 2)
    ++ where_so (number == total - 1) (retrieval number 6 3)

-- so many passes from this number and state on
abbrev pub passes : (total number state : ℕ) → (more : ℕ) → List Command
passes total number state zero = []
passes total number state (suc more) = pass total number state ++ passes total (number + 1) (after_draws state) more

-- so many grants, behind all arrivals
abbrev pub grants : (total : ℕ) → (more : ℕ) → List Command
grants total zero = []
grants total (suc more) = Grant (time_of total) ∷ grants total more

-- the commands that are generated from a number, with so many arrivals
abbrev pub traffic_of : (number total : ℕ) → List Command
traffic_of number total = setup ++ passes total 0 number total ++ grants total total

-- their text
abbrev pub traffic_text : (number total : ℕ) → List ℕ
traffic_text number total = text_of (traffic_of number total)
