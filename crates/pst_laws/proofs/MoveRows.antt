-- Moves and trails of worked runs, by computation. Each request is carried out, whatever its kind.
use Rattle.std.proofs.Common.{◌≡◌, ℕ, false, List, [], ◌∷◌, ◌++◌, refl, Some, None}
use Rattle.std.specs.Prelude.{map}
use Rattle.std.specs.List.{range_with_len}
use Rattle.control_defs.specs.declared.instructions.Instruction.{Instruction}
use Rattle.control_defs.specs.declared.instructions.Instruction.TheVariants.{Abort, Copy, Create, DeleteUpTo, OpenFrom, Remove, StartRange}
use Rattle.control_defs.specs.declared.instructions.StoreKind.TheVariants.{Circular}
use Rattle.pst_model.specs.Command.{Command, Arrival, Request, Grant}
use Rattle.pst_model.specs.Table.{Stored, Table, after_format, boot_store}
use Rattle.pst_laws.specs.Moves.{Aborts, Appears, Goes, GoesOn, Judge, Leaves, Move, OpenSends, RangeSends, Starts, Takes, items_moves, moves_along}
use Rattle.pst_laws.specs.Places.{place_of}
use Rattle.pst_laws.specs.Trails.{Trail, follow, follow_all, trail_at}

abbrev all_carried : Judge
all_carried packet = None

-- a packet of 20 octets, of which the last one varies
abbrev packet : ℕ → List ℕ
packet last = 0x08 ∷ 0x64 ∷ 0xc0 ∷ 0x00 ∷ 0x00 ∷ 0x0d ∷ 0x20 ∷ 0x03 ∷ 0x19 ∷ 0x00 ∷ 0x00 ∷ 0x00 ∷ 0x00 ∷ 0x00 ∷ 0x00 ∷ 0x00 ∷ 0x00 ∷ 0x00 ∷ 0x10 ∷ last ∷ []

abbrev asking : (size subtype : ℕ) → List ℕ → List ℕ
asking size subtype body = 0x18 ∷ 0x0a ∷ 0xc0 ∷ 0x00 ∷ 0x00 ∷ size ∷ 0x20 ∷ 0x0f ∷ subtype ∷ 0x00 ∷ 0x00 ∷ 0x01 ∷ 0x00 ∷ 0x01 ∷ body

-- a range retrieval of store 1 from one time, of an octet, to another one
abbrev ranging : (t1 t2 : ℕ) → List ℕ
ranging t1 t2 = asking 0x13 0x09 (0x00 ∷ 0x00 ∷ 0x00 ∷ 0x00 ∷ 0x00 ∷ t1 ∷ 0x00 ∷ 0x00 ∷ 0x00 ∷ 0x00 ∷ 0x00 ∷ t2 ∷ [])

abbrev suspended : List ℕ
suspended = asking 0x07 0x10 []

abbrev moves : List Command → List (List Move)
moves commands = moves_along all_carried 16 1 1 after_format commands

abbrev trail : List Command → Trail
trail commands = follow_all (moves commands) (trail_at (place_of 1 after_format))

-- a range over a time that two packets have sends both, and then open retrieval does
abbrev one_time : List Command
one_time = Arrival 0x30 (packet 1) ∷ Arrival 0x20 (packet 2) ∷ Request 0x31 (ranging 0x30 0x30) ∷ Grant 1 ∷ Grant 2 ∷ Grant 3 ∷ Grant 4 ∷ Grant 5 ∷ []

abbrev taken : (time last : ℕ) → List Move
taken time last = Leaves 0 ∷ Takes (record { time = time; octets = packet last } ∷ []) ∷ []

both_twice : moves one_time
    ≡ taken 0x30 1 ∷ taken 0x30 2 ∷ (Starts 0 2 ∷ []) ∷ (RangeSends 0 ∷ []) ∷ (RangeSends 1 ∷ []) ∷ (OpenSends 0 ∷ []) ∷ (OpenSends 1 ∷ []) ∷ [] ∷ []
both_twice = refl

each_number_twice : trail one_time
    ≡ record { numbered = record { time = 0x30; octets = packet 1 } ∷ record { time = 0x30; octets = packet 2 } ∷ []; gone = 0; range = record { first = 0; end = 2; sent = 0 ∷ 1 ∷ []; aborted = false }; ahead = record { first = 0; sent = 0 ∷ 1 ∷ [] } }
each_number_twice = refl

-- a range over 64 packets, half of which leave for others before their turn
abbrev half_leaves : List Command
half_leaves = map (λ n. Arrival n (packet n)) (range_with_len 1 64) ++ Request 65 suspended ∷ Request 65 (ranging 0 0xff)
    ∷ map (λ n. Arrival n (packet n)) (range_with_len 65 32) ++ map (λ n. Grant n) (range_with_len 97 64)

the_others_go_out : trail half_leaves
    ≡ record { numbered = map (λ n. record { time = n; octets = packet n }) (range_with_len 1 96); gone = 32; range = record { first = 0; end = 64; sent = range_with_len 32 32; aborted = false }; ahead = record { first = 0; sent = [] } }
the_others_go_out = refl

-- no other store has a move
none_of_others : moves_along all_carried 16 1 2 after_format one_time ≡ [] ∷ [] ∷ [] ∷ [] ∷ [] ∷ [] ∷ [] ∷ [] ∷ []
none_of_others = refl

-- packets with the times 1, 2, 2 and 4, of which open retrieval has passed three
abbrev four : List Stored
four = record { time = 1; octets = packet 1 } ∷ record { time = 2; octets = packet 2 } ∷ record { time = 2; octets = packet 3 } ∷ record { time = 4; octets = packet 4 } ∷ []

abbrev quiet : Table
quiet = record after_format { now = 9; stores = record boot_store { storage = false; open_on = false; packets = four; behind = 3 } ∷ [] }

abbrev by_items : List Instruction → List Move
by_items items = items_moves 32 1 items quiet

-- ranges that are started anew, and one that is refused while another stands
ranges_anew : by_items (StartRange 1 2 2 ∷ StartRange 1 1 4 ∷ Abort 1 ∷ Abort 1 ∷ DeleteUpTo 1 1 ∷ StartRange 1 1 4 ∷ [])
    ≡ Starts 1 3 ∷ Aborts ∷ Leaves 1 ∷ Starts 0 3 ∷ []
ranges_anew = refl

numbers_of_the_last : (follow (by_items (StartRange 1 2 2 ∷ Abort 1 ∷ DeleteUpTo 1 1 ∷ StartRange 1 1 4 ∷ [])) (trail_at (place_of 1 quiet))).range
    ≡ record { first = 1; end = 4; sent = []; aborted = false }
numbers_of_the_last = refl

-- a store that is deleted and made again begins anew, and open retrieval is set to a time
made_again : by_items (DeleteUpTo 1 2 ∷ Remove 1 ∷ Create 1 Circular 10 1 ∷ OpenFrom 1 9 ∷ Remove 1 ∷ [])
    ≡ Leaves 3 ∷ Goes ∷ Appears ∷ GoesOn 0 ∷ Goes ∷ []
made_again = refl

open_from_a_time : (follow (by_items (DeleteUpTo 1 1 ∷ OpenFrom 1 3 ∷ [])) (trail_at (place_of 1 quiet))).ahead ≡ record { first = 3; sent = [] }
open_from_a_time = refl

-- a copy comes into the store that it names
copied_into : items_moves 32 2 (Create 2 Circular 10 1 ∷ Copy 1 2 2 2 ∷ Copy 1 2 2 2 ∷ []) quiet
    ≡ Appears ∷ Takes (record { time = 2; octets = packet 2 } ∷ record { time = 2; octets = packet 3 } ∷ []) ∷ []
copied_into = refl

-- at the begin, a range that stands is one of all its positions
begins_in_a_range : trail_at (place_of 1 (record after_format { stores = record boot_store { packets = four; behind = 3; range = Some (1, 3) } ∷ [] }))
    ≡ record { numbered = four; gone = 0; range = record { first = 1; end = 3; sent = []; aborted = false }; ahead = record { first = 3; sent = [] } }
begins_in_a_range = refl
