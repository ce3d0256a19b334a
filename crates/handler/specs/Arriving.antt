-- What goes out of an arriving packet.
use Rattle.std.specs.Prelude.{ℕ, Bool, if◌then◌else◌, List, [], ◌∷◌, ◌++◌, map}
use Rattle.pst_model.specs.Replies.{replies_from}
use Rattle.pst_model.specs.Rules.{Forwarded, Output}
use Rattle.store_put.specs.Refusals.{report_of}
use Rattle.store_put.specs.declared.refusals.RefusedPut.{RefusedPut}

-- the packet itself, on channel 0
abbrev pub forwarded_as : (number : ℕ) → (packet : List ℕ) → Output
forwarded_as number packet =
    record { command = number; kind = Forwarded; channel = 0; packet = packet }

-- the reports of refusals, the first of which has this sequence count
abbrev pub refusals_from : (number moment count : ℕ) → List RefusedPut → List Output
refusals_from number moment count refused =
    replies_from number moment count (map report_of refused)

-- the packet if it is forwarded, and then the reports
abbrev pub lines_by : (number moment count : ℕ) → (is_forwarded : Bool) → (packet : List ℕ)
    → List RefusedPut → List Output
lines_by number moment count is_forwarded packet refused =
    (if is_forwarded then forwarded_as number packet ∷ [] else [])
    ++ refusals_from number moment count refused
