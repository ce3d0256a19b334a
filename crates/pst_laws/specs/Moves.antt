-- What commands do to the packets of one store: how many leave its front, and which are sent
-- (ECSS-E-ST-70-41C, 6.15.3).
use Rattle.std.specs.Prelude.{ℕ, ◌+◌, ◌==◌, ◌&&◌, max, not, Bool, false, find, if◌then◌else◌, List, [], ◌∷◌, ◌++◌, length, Option, Some, None, Result, Ok, Err}
use Rattle.space_packet.specs.Packet.{apid_of}
use Rattle.control_defs.specs.declared.instructions.Instruction.{Instruction}
use Rattle.control_defs.specs.declared.instructions.Instruction.TheVariants.{Abort, Copy, Create, DeleteUpTo, OpenFrom, Remove, StartRange}
use Rattle.pus_header.specs.Commands.{service_of, subtype_of}
use Rattle.pst_model.specs.declared.verdicts.Verdict.{Verdict}
use Rattle.space_packet.specs.Charge.{charge_of}
use Rattle.pst_model.specs.Answers.{answer_by, data_in}
use Rattle.pst_model.specs.Arrivals.{arrive, is_offered}
use Rattle.pst_model.specs.Changes.{is_named}
use Rattle.pst_model.specs.Command.{Command, Arrival, Request, Grant, Idle}
use Rattle.pst_model.specs.Instructions.{instruct}
use Rattle.pst_model.specs.Ranges.{count_below, count_up_to, window_of}
use Rattle.pst_model.specs.Replies.{behind_outputs}
use Rattle.pst_model.specs.Requests.{items_in}
use Rattle.pst_model.specs.Rules.{Put, Refused, Step, Taken, grant, has_ahead, has_range, put, range_next, to_drop}
use Rattle.pst_model.specs.Table.{Store, Stored, Table}

-- What happens to the packets and positions of one store.
pub data Move : Type 0 where
  -- the store is created, or deleted
  Appears : Move
  Goes : Move
  -- so many packets leave its front
  Leaves : (count : ℕ) → Move
  -- packets come behind its last one
  Takes : (packets : List Stored) → Move
  -- a range retrieval starts at the first position, and is to end before the second
  Starts : (next end : ℕ) → Move
  Aborts : Move
  -- open retrieval goes on from a position
  GoesOn : (position : ℕ) → Move
  -- the packet at a position is sent, by the range retrieval or by open retrieval
  RangeSends : (position : ℕ) → Move
  OpenSends : (position : ℕ) → Move

-- Which requests are refused, and how. The laws hold of each: of the judgements of the table of
-- requests, whichever of its kinds are carried out.
abbrev pub Judge : Type 0
Judge = List ℕ → Option Verdict

-- a command, where requests are refused so
abbrev pub step_by : Judge → (blocks number : ℕ) → Command → Table → Step
step_by judge blocks number (Arrival moment packet) table = arrive number moment packet table
step_by judge blocks number (Request moment packet) table =
    answer_by blocks number moment packet table (judge packet)
step_by judge blocks number (Grant moment) table = grant number table
step_by judge blocks number (Idle moment) table = record { table = table; outputs = [] }

-- the run of commands, the first of which has this number
abbrev pub run_by : Judge → (blocks number : ℕ) → Table → List Command → Step
run_by judge blocks number table [] = record { table = table; outputs = [] }
run_by judge blocks number table (command ∷ commands) =
    behind_outputs (step_by judge blocks number command table).outputs
    (run_by judge blocks (number + 1) (step_by judge blocks number command table).table commands)

-- the store of an identifier
abbrev pub store_named : (identifier : ℕ) → Table → Option Store
store_named identifier table = find (is_named identifier) table.stores

abbrev pub packets_in : Option Store → List Stored
packets_in None = []
packets_in (Some store) = store.packets

abbrev pub packets_of : (identifier : ℕ) → Table → List Stored
packets_of identifier table = packets_in (store_named identifier table)

-- a packet that a store takes behind those that leave, or refuses
abbrev pub put_moves : Stored → (leaving : ℕ) → Put → List Move
put_moves stored leaving (Taken next) = Leaves leaving ∷ Takes (stored ∷ []) ∷ []
put_moves stored leaving (Refused need free) = []

-- an arriving packet with its storage time, offered to the store
abbrev pub offer_moves : Stored → Option Store → List Move
offer_moves stored None = []
offer_moves stored (Some store) =
    if is_offered stored.octets store
    then put_moves stored (to_drop store (charge_of (length stored.octets))) (put store stored)
    else []

abbrev pub arrival_moves : (identifier moment : ℕ) → (packet : List ℕ) → Table → List Move
arrival_moves identifier moment packet table =
    if apid_of packet == 2047 then []
    else offer_moves (record { time = max table.now moment; octets = packet })
    (store_named identifier table)

abbrev pub if_named : (identifier other : ℕ) → Move → List Move
if_named identifier other move = if other == identifier then move ∷ [] else []

-- an instruction that takes effect
abbrev pub item_moves : (identifier : ℕ) → Instruction → Table → List Move
item_moves identifier (Create other kind size channel) table = if_named identifier other Appears
item_moves identifier (Remove other) table = if_named identifier other Goes
item_moves identifier (DeleteUpTo other t) table =
    if_named identifier other (Leaves (count_up_to t (packets_of identifier table)))
item_moves identifier (Copy from other t1 t2) table =
    if_named identifier other (Takes (window_of t1 t2 (packets_of from table)))
item_moves identifier (StartRange other t1 t2) table =
    if_named identifier other
    (Starts (count_below t1 (packets_of identifier table)) (count_up_to t2 (packets_of identifier table)))
item_moves identifier (Abort other) table = if_named identifier other Aborts
item_moves identifier (OpenFrom other t) table =
    if_named identifier other (GoesOn (count_below t (packets_of identifier table)))
item_moves identifier _ table = []

-- an instruction's moves where it took effect, and those of the others behind it
abbrev pub moves_by : List Move → Table → Result Table ℕ → (Table → List Move) → List Move
moves_by moves table (Ok next) behind = moves ++ behind next
moves_by moves table (Err code) behind = behind table

abbrev pub items_moves : (blocks identifier : ℕ) → List Instruction → Table → List Move
items_moves blocks identifier [] table = []
items_moves blocks identifier (item ∷ items) table =
    moves_by (item_moves identifier item table) table
    (instruct blocks item table) (items_moves blocks identifier items)

abbrev pub request_moves : (blocks identifier : ℕ) → (packet : List ℕ) → Table → Option Verdict
    → List Move
request_moves blocks identifier packet table (Some verdict) = []
request_moves blocks identifier packet table None =
    items_moves blocks identifier
    (items_in (service_of packet) (subtype_of packet) (data_in packet)) table

-- whether the first store that passes the test is the one of this identifier
abbrev pub is_first : (Store → Bool) → (identifier : ℕ) → List Store → Bool
is_first test identifier [] = false
is_first test identifier (store ∷ stores) =
    if test store then is_named identifier store
    else not (is_named identifier store) && is_first test identifier stores

abbrev pub open_moves : (identifier : ℕ) → Table → Option Store → List Move
open_moves identifier table None = []
open_moves identifier table (Some store) =
    if is_first has_ahead identifier table.stores then OpenSends store.behind ∷ [] else []

abbrev pub range_moves : (identifier : ℕ) → Table → Option Store → List Move
range_moves identifier table None = open_moves identifier table (find has_ahead table.stores)
range_moves identifier table (Some store) =
    if is_first has_range identifier table.stores then RangeSends (range_next store.range) ∷ []
    else []

-- What a command does to the store of an identifier, in order.
abbrev pub moves_of : Judge → (blocks identifier : ℕ) → Command → Table → List Move
moves_of judge blocks identifier (Arrival moment packet) table =
    arrival_moves identifier moment packet table
moves_of judge blocks identifier (Request moment packet) table =
    request_moves blocks identifier packet table (judge packet)
moves_of judge blocks identifier (Grant moment) table =
    range_moves identifier table (find has_range table.stores)
moves_of judge blocks identifier (Idle moment) table = []

-- What each of these commands, the first of which has this number, does to it.
abbrev pub moves_along : Judge → (blocks number identifier : ℕ) → Table → List Command
    → List (List Move)
moves_along judge blocks number identifier table [] = []
moves_along judge blocks number identifier table (command ∷ commands) =
    moves_of judge blocks identifier command table
    ∷ moves_along judge blocks (number + 1) identifier
    (step_by judge blocks number command table).table commands
