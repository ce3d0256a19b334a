-- Stores that are created, resized and full, on worked inputs, by computation.
use Rattle.std.proofs.Common.{◌≡◌, ℕ, Bool, true, false, List, [], ◌∷◌, ◌++◌, length, refl, Err}
use Rattle.std.specs.Prelude.{is_ok, map, replicate}
use Rattle.control_defs.specs.declared.instructions.Instruction.{Instruction}
use Rattle.control_defs.specs.declared.instructions.Instruction.TheVariants.{Channel, Create, Remove, ToBounded}
use Rattle.control_defs.specs.declared.instructions.StoreKind.TheVariants.{Bounded, Circular}
use Rattle.pst_model.specs.Answers.{carry_out}
use Rattle.pst_model.specs.Command.{Command, Arrival, Request}
use Rattle.pst_model.specs.Instructions.{instruct}
use Rattle.pst_model.specs.Rules.{Output, Forwarded}
use Rattle.control_defs.specs.declared.patterns.Pattern.TheVariants.{Every}
use Rattle.pst_model.specs.Stores.{new_store}
use Rattle.pst_model.specs.Table.{Store, Table, after_format, boot_store, content_of}
use Rattle.pst_model.proofs.AllKinds.{asking, carry, packet, report}

-- a packet of 300 octets: 2 pages
abbrev longer : List ℕ
longer = (0x08 ∷ 0x64 ∷ 0xc0 ∷ 0x00 ∷ 0x01 ∷ 0x25 ∷ []) ++ replicate 294 0

-- Store 2 is created with this kind and size and channel 2, takes every packet, and is enabled.
abbrev with_second : (kind size : ℕ) → List Command
with_second kind size =
    Request 1 (asking 0 0x0d 0x14 (0x01 ∷ 0x00 ∷ 0x02 ∷ kind ∷ 0x00 ∷ 0x00 ∷ 0x00 ∷ size ∷ 0x02 ∷ []))
    ∷ Request 2 (asking 1 0x0c 0x03 (0x01 ∷ 0x00 ∷ 0x02 ∷ 0x00 ∷ 0x00 ∷ 0x00 ∷ 0x00 ∷ 0x00 ∷ []))
    ∷ Request 3 (asking 2 0x07 0x01 (0x01 ∷ 0x00 ∷ 0x02 ∷ [])) ∷ []

abbrev counts : Table → List (ℕ × ℕ)
counts table = map (λ store. (length store.packets, content_of store)) table.stores

-- of three packets of a page, two leave for one of two pages, and not three
two_leave : counts (carry 16 after_format (with_second 0 3 ++ Arrival 16 (packet 1) ∷ Arrival 17 (packet 2) ∷ Arrival 18 (packet 3) ∷ Arrival 19 longer ∷ [])).table
    ≡ (4, 5) ∷ (2, 3) ∷ []
two_leave = refl

-- a full store reports its first refusal alone
abbrev four : List Command
four = Arrival 0x31 (packet 1) ∷ Arrival 0x32 (packet 2) ∷ Arrival 0x33 (packet 3) ∷ Arrival 0x34 (packet 4) ∷ []

abbrev refusal : (command count moment : ℕ) → Output
refusal command count moment = report command count 0x18 5 2 moment (0x00 ∷ 0x01 ∷ 0x00 ∷ 0x02 ∷ 0x00 ∷ 0x00 ∷ 0x00 ∷ 0x01 ∷ 0x00 ∷ 0x00 ∷ 0x00 ∷ 0x00 ∷ [])

told_once : (carry 16 after_format (with_second 1 2 ++ four)).outputs ≡ refusal 6 0 0x33 ∷ []
told_once = refl

counted_once : (carry 16 after_format (with_second 1 2 ++ four)).table.reports ≡ 1
counted_once = refl

-- what refused is told, and holds what it held
stays_full : map {B = ℕ × Bool} (λ (store : Store). (length store.packets, store.told)) (carry 16 after_format (with_second 1 2 ++ four)).table.stores ≡ (4, false) ∷ (2, true) ∷ []
stays_full = refl

-- a forwarded packet stands in front of the reports of the stores that refuse it, in their order
abbrev full : (identifier : ℕ) → Store
full identifier = record (new_store identifier Bounded 1 2) { storage = true; patterns = Every ∷ []; packets = record { time = 0; octets = packet 1 } ∷ [] }

abbrev refusing : Table
refusing = record after_format { reports = 16383; forward = Every ∷ []; stores = full 3 ∷ record (full 4) { told = true } ∷ full 2 ∷ [] }

abbrev wrapped_refusal : Output
wrapped_refusal = record (report 1 0xff 0x18 5 2 7 (0x00 ∷ 0x01 ∷ 0x00 ∷ 0x03 ∷ 0x00 ∷ 0x00 ∷ 0x00 ∷ 0x01 ∷ 0x00 ∷ 0x00 ∷ 0x00 ∷ 0x00 ∷ [])) {
  packet = 0x08 ∷ 0x0a ∷ 0xff ∷ 0xff ∷ 0x00 ∷ 0x18 ∷ 0x20 ∷ 0x05 ∷ 0x02 ∷ 0x00 ∷ 0x00 ∷ 0x00 ∷ 0x00 ∷ 0x00 ∷ 0x00 ∷ 0x00 ∷ 0x00 ∷ 0x00 ∷ 0x07
      ∷ 0x00 ∷ 0x01 ∷ 0x00 ∷ 0x03 ∷ 0x00 ∷ 0x00 ∷ 0x00 ∷ 0x01 ∷ 0x00 ∷ 0x00 ∷ 0x00 ∷ 0x00 ∷ [];
}

reported_in_order : (carry 16 refusing (Arrival 7 (packet 9) ∷ Arrival 8 (packet 9) ∷ [])).outputs
    ≡ record { command = 1; kind = Forwarded; channel = 0; packet = packet 9 } ∷ wrapped_refusal ∷ refusal 1 0 7 ∷ record { command = 2; kind = Forwarded; channel = 0; packet = packet 9 } ∷ []
reported_in_order = refl

counted_around : (carry 16 refusing (Arrival 7 (packet 9) ∷ Arrival 8 (packet 9) ∷ [])).table.reports ≡ 1
counted_around = refl

-- a put that is not refused takes the mark of a refusal away
abbrev told_and_empty : Table
told_and_empty = record after_format { stores = record boot_store { told = true } ∷ [] }

no_longer_told : map (λ (store : Store). store.told) (carry 16 told_and_empty (Arrival 1 (packet 1) ∷ [])).table.stores ≡ false ∷ []
no_longer_told = refl

-- of three stores to be created the second stands already: the others are created
abbrev create_three : List ℕ
create_three = asking 0 0x1d 0x14 (0x03 ∷ 0x00 ∷ 0x02 ∷ 0x00 ∷ 0x00 ∷ 0x00 ∷ 0x00 ∷ 0x03 ∷ 0x02
    ∷ 0x00 ∷ 0x01 ∷ 0x00 ∷ 0x00 ∷ 0x00 ∷ 0x00 ∷ 0x03 ∷ 0x02 ∷ 0x00 ∷ 0x03 ∷ 0x01 ∷ 0x00 ∷ 0x00 ∷ 0x00 ∷ 0x02 ∷ 0x03 ∷ [])

abbrev identifier : List ℕ
identifier = 0x18 ∷ 0x0a ∷ 0xc0 ∷ 0x00 ∷ []

one_stands : (carry 32 after_format (Request 5 create_three ∷ [])).outputs
    ≡ report 1 0 0x13 1 4 5 (identifier ++ 0x07 ∷ 0x00 ∷ 0x02 ∷ []) ∷ report 1 1 0x13 1 8 5 (identifier ++ 0x17 ∷ 0x00 ∷ 0x01 ∷ []) ∷ []
one_stands = refl

two_are_created : (carry 32 after_format (Request 5 create_three ∷ [])).table.stores ≡ boot_store ∷ new_store 2 Circular 3 2 ∷ new_store 3 Bounded 2 3 ∷ []
two_are_created = refl

-- on 16 blocks, 8 of which stores may reserve, one of 5 blocks has room beside the boot store
largest_is_created : map is_ok (instruct 16 (Create 2 Circular 719 2) after_format ∷ instruct 16 (Create 2 Circular 720 2) after_format ∷ instruct 17 (Create 2 Circular 720 2) after_format ∷ []) ≡ true ∷ false ∷ true ∷ []
largest_is_created = refl

too_large_by_a_page : instruct 16 (Create 2 Circular 720 2) after_format ≡ Err 10
too_large_by_a_page = refl

-- two packets of a page are too many for one page, and not for two
abbrev quiet : List Command
quiet = Arrival 1 (packet 1) ∷ Arrival 2 (packet 2) ∷ Request 3 (asking 0 0x07 0x02 (0x01 ∷ 0x00 ∷ 0x01 ∷ [])) ∷ Request 4 (asking 1 0x07 0x10 (0x01 ∷ 0x00 ∷ 0x01 ∷ [])) ∷ []

abbrev resizing : (size : ℕ) → Command
resizing size = Request 5 (asking 2 0x0b 0x19 (0x01 ∷ 0x00 ∷ 0x01 ∷ 0x00 ∷ 0x00 ∷ 0x00 ∷ size ∷ []))

too_small : (carry 16 after_format (quiet ++ resizing 1 ∷ [])).outputs
    ≡ report 5 0 0x13 1 4 5 (0x18 ∷ 0x0a ∷ 0xc0 ∷ 0x02 ∷ 0x13 ∷ 0x00 ∷ 0x01 ∷ []) ∷ report 5 1 0x13 1 8 5 (0x18 ∷ 0x0a ∷ 0xc0 ∷ 0x02 ∷ 0x17 ∷ 0x00 ∷ 0x01 ∷ []) ∷ []
too_small = refl

just_large_enough : map {B = ℕ × ℕ} (λ (store : Store). (store.size, length store.packets)) (carry 16 after_format (quiet ++ resizing 2 ∷ [])).table.stores ≡ (2, 2) ∷ []
just_large_enough = refl

-- A store that is deleted gives its blocks back. A created one goes last, also where one of its
-- identifier stood before.
abbrev again : List Instruction
again = Create 2 Circular 479 2 ∷ Create 3 Circular 1 3 ∷ Remove 2 ∷ Create 3 Bounded 1 3 ∷ Create 2 Bounded 240 4 ∷ Channel 2 5 ∷ ToBounded 3 ∷ []

created_again : carry_out 18 again after_format
    ≡ record { table = record after_format { stores = boot_store ∷ new_store 3 Bounded 1 3 ∷ new_store 2 Bounded 240 5 ∷ [] }; failures = (4, 7) ∷ [] }
created_again = refl
