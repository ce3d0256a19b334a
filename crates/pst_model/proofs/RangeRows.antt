-- Ranges, deletion and copies on worked inputs, by computation.
use Rattle.std.proofs.Common.{◌≡◌, ℕ, ◌+◌, true, false, List, [], ◌∷◌, ◌++◌, refl, Some, None, Result, Ok}
use Rattle.std.specs.Prelude.{map}
use Rattle.std.specs.List.{range_with_len}
use Rattle.control_defs.specs.declared.instructions.Instruction.TheVariants.{Abort, Copy, DeleteUpTo, OpenFrom, StartRange}
use Rattle.control_defs.specs.declared.instructions.StoreKind.TheVariants.{Circular}
use Rattle.pst_model.specs.Answers.{carry_out}
use Rattle.pst_model.specs.Command.{Command, Arrival, Request, Grant}
use Rattle.pst_model.specs.Instructions.{instruct}
use Rattle.pst_model.specs.Rules.{Output, Retrieved}
use Rattle.pst_model.specs.Stores.{new_store}
use Rattle.pst_model.specs.Table.{Store, Stored, Table, after_format, boot_store}
use Rattle.pst_model.proofs.AllKinds.{asking, carry, packet, report}

abbrev sent : (command : ℕ) → List ℕ → Output
sent command octets = record { command = command; kind = Retrieved; channel = 1; packet = octets }

-- a range over a time that two packets have sends both, and then open retrieval does
abbrev one_time : List ℕ
one_time = asking 0 0x13 0x09 (0x01 ∷ 0x00 ∷ 0x01 ∷ 0x00 ∷ 0x00 ∷ 0x00 ∷ 0x00 ∷ 0x00 ∷ 0x30 ∷ 0x00 ∷ 0x00 ∷ 0x00 ∷ 0x00 ∷ 0x00 ∷ 0x30 ∷ [])

both_twice : (carry 16 after_format (Arrival 0x30 (packet 1) ∷ Arrival 0x20 (packet 2) ∷ Request 0x31 one_time ∷ Grant 1 ∷ Grant 2 ∷ Grant 3 ∷ Grant 4 ∷ Grant 5 ∷ [])).outputs
    ≡ sent 4 (packet 1) ∷ sent 5 (packet 2) ∷ sent 6 (packet 1) ∷ sent 7 (packet 2) ∷ []
both_twice = refl

-- A range over 64 packets, half of which leave for others: it sends those that stay, in order.
abbrev suspended : List ℕ
suspended = asking 0 0x07 0x10 (0x01 ∷ 0x00 ∷ 0x01 ∷ [])

abbrev over_all : List ℕ
over_all = asking 1 0x13 0x09 (0x01 ∷ 0x00 ∷ 0x01 ∷ 0x00 ∷ 0x00 ∷ 0x00 ∷ 0x00 ∷ 0x00 ∷ 0x00 ∷ 0xff ∷ 0xff ∷ 0xff ∷ 0xff ∷ 0xff ∷ 0xff ∷ [])

abbrev half_leaves : List Command
half_leaves = map (λ n. Arrival n (packet n)) (range_with_len 1 64) ++ Request 65 suspended ∷ Request 65 over_all
    ∷ map (λ n. Arrival n (packet n)) (range_with_len 65 32) ++ map (λ n. Grant n) (range_with_len 97 64)

the_others_go_out : (carry 16 after_format half_leaves).outputs ≡ map (λ n. sent (66 + n) (packet n)) (range_with_len 33 32)
the_others_go_out = refl

-- windows of packets with the times 1, 2, 2 and 4
abbrev four : List Stored
four = record { time = 1; octets = packet 1 } ∷ record { time = 2; octets = packet 2 } ∷ record { time = 2; octets = packet 3 } ∷ record { time = 4; octets = packet 4 } ∷ []

abbrev quiet : Store
quiet = record boot_store { open_on = false; told = true; packets = four; behind = 3 }

abbrev of_one : Store → Table
of_one store = record after_format { now = 9; stores = store ∷ [] }

abbrev ranges : List (ℕ × ℕ) → List (Result Table ℕ)
ranges windows = map (λ window. instruct 16 (StartRange 1 window.0 window.1) (of_one quiet)) windows

ranges_of_windows : ranges ((0, 9) ∷ (1, 1) ∷ (2, 2) ∷ (2, 4) ∷ (3, 3) ∷ (5, 9) ∷ [])
    ≡ map (λ range. Ok (of_one (record quiet { range = range }))) (Some (0, 4) ∷ Some (0, 1) ∷ Some (1, 3) ∷ Some (1, 4) ∷ None ∷ None ∷ [])
ranges_of_windows = refl

abort_ends_a_range : carry_out 16 (StartRange 1 1 4 ∷ StartRange 1 1 4 ∷ Abort 1 ∷ Abort 1 ∷ []) (of_one quiet)
    ≡ record { table = of_one quiet; failures = (2, 14) ∷ (4, 22) ∷ [] }
abort_ends_a_range = refl

-- deletion up to a time takes all packets of that time
two_are_left : instruct 16 (DeleteUpTo 1 1) (of_one quiet) ≡ Ok (of_one (record quiet { told = false; packets = record { time = 2; octets = packet 2 } ∷ record { time = 2; octets = packet 3 } ∷ record { time = 4; octets = packet 4 } ∷ []; behind = 2 }))
two_are_left = refl

one_is_left : instruct 16 (DeleteUpTo 1 2) (of_one quiet) ≡ Ok (of_one (record quiet { told = false; packets = record { time = 4; octets = packet 4 } ∷ []; behind = 0 }))
one_is_left = refl

-- the mark of a refusal goes also where no packet does
none_leaves : instruct 16 (DeleteUpTo 1 0) (of_one quiet) ≡ Ok (of_one (record quiet { told = false }))
none_leaves = refl

-- open retrieval goes on from the first packet of a time
behinds : map (λ t. instruct 16 (OpenFrom 1 t) (of_one quiet)) (0 ∷ 2 ∷ 3 ∷ 5 ∷ [])
    ≡ map (λ behind. Ok (of_one (record quiet { behind = behind }))) (0 ∷ 1 ∷ 3 ∷ 4 ∷ [])
behinds = refl

-- A packet is copied with its time, though the present one is later.
abbrev idle : List ℕ
idle = 0x07 ∷ 0xff ∷ 0xc0 ∷ 0x00 ∷ 0x00 ∷ 0x00 ∷ 0x00 ∷ []

abbrev create_two : List ℕ
create_two = asking 0 0x15 0x14 (0x02 ∷ 0x00 ∷ 0x02 ∷ 0x00 ∷ 0x00 ∷ 0x00 ∷ 0x00 ∷ 0x0a ∷ 0x02 ∷ 0x00 ∷ 0x03 ∷ 0x00 ∷ 0x00 ∷ 0x00 ∷ 0x00 ∷ 0x0a ∷ 0x02 ∷ [])

abbrev copying : (from to t1 t2 : ℕ) → List ℕ
copying from to t1 t2 = asking 0 0x15 0x18 (0x01 ∷ 0x00 ∷ from ∷ 0x00 ∷ to ∷ 0x00 ∷ 0x00 ∷ 0x00 ∷ 0x00 ∷ 0x00 ∷ t1 ∷ 0x00 ∷ 0x00 ∷ 0x00 ∷ 0x00 ∷ 0x00 ∷ t2 ∷ [])

abbrev copied : Table
copied = (carry 32 after_format (Arrival 0x10 (packet 0xaa) ∷ Arrival 0x40 idle ∷ Request 0x41 create_two ∷ Request 0x42 (copying 1 2 0x10 0x10) ∷ [])).table

with_its_time : copied ≡ record after_format {
  now = 0x40;
  stores = record boot_store { packets = record { time = 0x10; octets = packet 0xaa } ∷ [] }
      ∷ record (new_store 2 Circular 10 2) { packets = record { time = 0x10; octets = packet 0xaa } ∷ [] }
      ∷ new_store 3 Circular 10 2 ∷ [];
}
with_its_time = refl

refused_copies : (carry_out 32 (Copy 1 2 0x11 0x10 ∷ Copy 1 1 0x10 0x10 ∷ Copy 1 2 0x10 0x10 ∷ Copy 1 3 0x12 0x12 ∷ []) copied)
    ≡ record { table = copied; failures = (1, 15) ∷ (2, 24) ∷ (3, 16) ∷ (4, 17) ∷ [] }
refused_copies = refl

-- as a request, the last of them is answered by its code
empty_window_reported : (carry 32 copied (Request 0x43 (copying 1 3 0x12 0x12) ∷ [])).outputs
    ≡ report 1 0 0x13 1 4 0x43 (0x18 ∷ 0x0a ∷ 0xc0 ∷ 0x00 ∷ 0x11 ∷ 0x00 ∷ 0x01 ∷ []) ∷ report 1 1 0x13 1 8 0x43 (0x18 ∷ 0x0a ∷ 0xc0 ∷ 0x00 ∷ 0x17 ∷ 0x00 ∷ 0x01 ∷ []) ∷ []
empty_window_reported = refl
