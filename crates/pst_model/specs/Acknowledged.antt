-- Which commands the octets that were sent acknowledge.
use Rattle.std.specs.Prelude.{ℕ, ◌-◌, ◌==◌, max, Bool, true, false, if◌then◌else◌, List, [], ◌∷◌, length}
use Rattle.pst_model.specs.Output.{output_line}
use Rattle.pst_model.specs.Rules.{Output, OutputKind, Forwarded, Reply, Retrieved}

-- a forwarded packet may precede its command's commit
abbrev pub acknowledges : OutputKind → Bool
acknowledges Forwarded = false
acknowledges Reply = true
acknowledges Retrieved = true

-- The number of the last command of which an octet of a reply or retrieved line stands among so
-- many octets of the outputs' lines, and 0 where there is none.
abbrev pub acknowledged : List Output → (octets : ℕ) → ℕ
acknowledged [] octets = 0
acknowledged (output ∷ outputs) octets =
    if octets == 0 then 0
    else max (if acknowledges output.kind then output.command else 0)
    (acknowledged outputs (octets - length (output_line output.channel output.packet)))
