-- Kinds of store, and instructions whose parts are within their ranges.
use Rattle.std.specs.Prelude.{ℕ, ◌<◌, ◌^◌, ◌==◌, if◌then◌else◌}
use Rattle.control_defs.specs.declared.instructions.Instruction.{Instruction}
use Rattle.control_defs.specs.declared.instructions.Instruction.TheVariants.{ForwardAdd, ForwardDelete, AddTypes, DeleteTypes, StartRange, DeleteUpTo, OpenFrom, Copy}
use Rattle.control_defs.specs.declared.instructions.StoreKind.{StoreKind}
use Rattle.control_defs.specs.declared.instructions.StoreKind.TheVariants.{Circular, Bounded}
use Rattle.control_defs.specs.Patterns.{IsPattern}

-- a kind of store as an octet
abbrev pub kind_octet : StoreKind → ℕ
kind_octet Circular = 0
kind_octet Bounded = 1

-- the kind of store by its octet
abbrev pub store_kind_in : (octet : ℕ) → StoreKind
store_kind_in octet = if octet == 0 then Circular else Bounded

-- its patterns are patterns, and its times have 48 bits
abbrev pub IsInstruction : Instruction → Type 0
IsInstruction (ForwardAdd pattern) = IsPattern pattern
IsInstruction (ForwardDelete pattern) = IsPattern pattern
IsInstruction (AddTypes store pattern) = IsPattern pattern
IsInstruction (DeleteTypes store pattern) = IsPattern pattern
IsInstruction (StartRange store t1 t2) = (t1 < 2 ^ 48) × (t2 < 2 ^ 48)
IsInstruction (DeleteUpTo store t) = t < 2 ^ 48
IsInstruction (OpenFrom store t) = t < 2 ^ 48
IsInstruction (Copy from to t1 t2) = (t1 < 2 ^ 48) × (t2 < 2 ^ 48)
IsInstruction _ = Unit {0}
