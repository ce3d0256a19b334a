-- The refusals of a packet by the stores of a table, each told once between two puts.
use Rattle.std.specs.Prelude.{◌≤◌, ℕ, if◌then◌else◌, List, [], ◌∷◌, flat_map}
use Rattle.pst_model.specs.Arrivals.{is_offered}
use Rattle.pst_model.specs.Reports.{Report, event_report}
use Rattle.pst_model.specs.Rules.{Put, Refused, Taken, put}
use Rattle.pst_model.specs.Table.{Store, Stored}
use Rattle.store_put.specs.declared.refusals.RefusedPut.{RefusedPut}
use Rattle.time_index.specs.TimeIndex.{TimeIndex, pages_of}

-- the refusal of a store that has not told one since its last put
abbrev pub put_refusal : Store → Put → List RefusedPut
put_refusal store (Taken next) = []
put_refusal store (Refused need free) =
    if store.told then []
    else record { store = store.identifier; need = need; free = free } ∷ []

-- a packet at some time: whether it is refused does not depend on when
abbrev pub at_any_time : List ℕ → Stored
at_any_time octets = record { time = 0; octets = octets }

-- the refusal of a store on an arriving packet, where there is one
abbrev pub offer_refusal : List ℕ → Store → List RefusedPut
offer_refusal octets store =
    if is_offered octets store then put_refusal store (put store (at_any_time octets)) else []

-- the refusals of all stores, in order
abbrev pub refusals_of : List ℕ → List Store → List RefusedPut
refusals_of octets stores = flat_map (offer_refusal octets) stores

-- the report that tells a refusal
abbrev pub report_of : RefusedPut → Report
report_of refusal = event_report refusal.store refusal.need refusal.free

-- the packets of an index take no more pages than there are
abbrev pub IsFilled : TimeIndex → Type 0
IsFilled index = pages_of index.entries ≤ index.size
