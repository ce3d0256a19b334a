-- What a view of the items of a request shows.
use Rattle.std.specs.Prelude.{ℕ, List, Some}
use Rattle.control_defs.specs.declared.instructions.Instruction.{Instruction}
use Rattle.pst_model.specs.Requests.{items_by}
use Rattle.pus_request.specs.declared.items.Items.{Items}
use Rattle.pus_request.specs.Kinds.{asked_by, row_of}

-- the instructions that the data of the request spells
abbrev pub listed : Items → List Instruction
listed items = items_by items.body.now (Some (row_of items.kind))

-- the service type and the message subtype of the request
abbrev pub asked : Items → ℕ × ℕ
asked items = asked_by items.kind
