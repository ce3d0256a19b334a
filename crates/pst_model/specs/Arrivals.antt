-- What arrivals do to the table (ECSS-E-ST-70-41C, 6.14.3 and 6.15.3).
use Rattle.std.specs.Prelude.{ℕ, ◌==◌, ◌&&◌, max, Bool, if◌then◌else◌, List, [], ◌∷◌, flat_map, map}
use Rattle.space_packet.specs.Packet.{apid_of}
use Rattle.control_defs.specs.Patterns.{any_covers}
use Rattle.pus_header.specs.Keys.{key_of}
use Rattle.pst_model.specs.Replies.{behind_outputs, replied}
use Rattle.pst_model.specs.Reports.{Report, event_report}
use Rattle.pst_model.specs.Rules.{Forwarded, Output, Put, Refused, Step, Taken, behind_put, put}
use Rattle.pst_model.specs.Table.{Store, Stored, Table}

-- whether an arriving packet is offered to a store: storage is on, and a pattern covers its key
abbrev pub is_offered : List ℕ → Store → Bool
is_offered packet store = store.storage && any_covers store.patterns (key_of packet)

-- a store behind an arriving packet
abbrev pub offered : Stored → Store → Store
offered stored store =
    if is_offered stored.octets store then behind_put store (put store stored) else store

-- a refusal is reported by a store that has not reported one since its last put
abbrev pub put_report : Store → Put → List Report
put_report store (Taken next) = []
put_report store (Refused need free) =
    if store.told then [] else event_report store.identifier need free ∷ []

-- the report of a store on an arriving packet, where there is one
abbrev pub offer_report : Stored → Store → List Report
offer_report stored store =
    if is_offered stored.octets store then put_report store (put store stored) else []

-- the packet itself, on channel 0, where a forward pattern covers its key
abbrev pub forwarded_on : (number : ℕ) → List ℕ → Table → List Output
forwarded_on number packet table =
    if any_covers table.forward (key_of packet)
    then record { command = number; kind = Forwarded; channel = 0; packet = packet } ∷ []
    else []

-- A packet with its storage time offered to each store, and the reports of those that refuse it.
abbrev pub offer : (number moment : ℕ) → Stored → Table → Step
offer number moment stored table =
    replied number moment
    (record table { now = stored.time; stores = map (offered stored) table.stores })
    (flat_map (offer_report stored) table.stores)

-- An arrival: the storage time rises to the moment. A packet that is not idle is forwarded where a
-- forward pattern covers its key, and then offered to each store.
abbrev pub arrive : (number moment : ℕ) → List ℕ → Table → Step
arrive number moment packet table =
    let now = max table.now moment in
    if apid_of packet == 2047 then record { table = record table { now = now }; outputs = [] }
    else behind_outputs (forwarded_on number packet table)
    (offer number moment (record { time = now; octets = packet }) table)
