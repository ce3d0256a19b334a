-- The numbers of the commands of outputs.
use Rattle.std.proofs.Common.{◌≡◌, ◌≤◌, ◌<◌, ℕ, ◌+◌, arith, Bool, true, false, List, [], ◌∷◌, ◌++◌, Option, Some, None, length, refl}
use Rattle.std.proofs.lemmas.List.Elements.{All-append, All-cons, All-head, All-nil, All-tail, All-weaker}
use Rattle.std.proofs.lemmas.List.Kept.{AllPairs-cons}
use Rattle.std.specs.Prelude.{◌==◌, All, AllPairs, find, flat_map, if◌then◌else◌, max}
use Rattle.control_defs.specs.Patterns.{any_covers}
use Rattle.pus_header.specs.Commands.{service_of, subtype_of}
use Rattle.pus_header.specs.Keys.{key_of}
use Rattle.space_packet.specs.Packet.{apid_of}
use Rattle.pst_model.specs.declared.verdicts.Verdict.{Verdict}
use Rattle.pst_model.specs.Answers.{answer_by, carry_out, data_in, on_request, refusal_of, reports_on}
use Rattle.pst_model.specs.Arrivals.{forwarded_on, offer, offer_report}
use Rattle.pst_model.specs.Command.{Command, Arrival, Request, Grant, Idle}
use Rattle.pst_model.specs.Replies.{behind_outputs, replies_from, reply}
use Rattle.pst_model.specs.Requests.{items_in}
use Rattle.pst_model.specs.Reports.{Report, count_behind}
use Rattle.pst_model.specs.Rules.{Forwarded, Output, grant_open, grant_range, has_ahead, has_range}
use Rattle.pst_model.specs.Run.{run_from, step}
use Rattle.pst_model.specs.Table.{Store, Table}

-- all outputs are of this command
abbrev pub AreOf : (number : ℕ) → List Output → Type 0
AreOf number outputs = All (λ (output : Output). output.command ≡ number) outputs

abbrev pub IsBetween : (first end : ℕ) → Output → Type 0
IsBetween first end output = (first ≤ output.command) × (output.command < end)

replies_of : (number moment count : ℕ) (reports : List Report) → AreOf number (replies_from number moment count reports)
replies_of number moment count [] = All-nil (λ (output : Output). output.command ≡ number)
replies_of number moment count (report ∷ reports) =
    All-cons (λ (output : Output). output.command ≡ number) (reply number moment count report) (replies_from number moment (count_behind count 1) reports)
    refl (replies_of number moment (count_behind count 1) reports)

one_of : (output : Output) → AreOf output.command (output ∷ [])
one_of output = All-cons (λ (other : Output). other.command ≡ output.command) output [] refl (All-nil (λ (other : Output). other.command ≡ output.command))

forwarded_of : (number : ℕ) (packet : List ℕ) (table : Table) → AreOf number (forwarded_on number packet table)
forwarded_of number packet table = by (any_covers table.forward (key_of packet))
  where
    by : (covered : Bool) → AreOf number (if covered then record { command = number; kind = Forwarded; channel = 0; packet = packet } ∷ [] else [])
    by true = one_of (record { command = number; kind = Forwarded; channel = 0; packet = packet })
    by false = All-nil (λ (output : Output). output.command ≡ number)

request_of : (blocks number moment : ℕ) (packet : List ℕ) (table : Table) (refusal : Option Verdict)
    → AreOf number (answer_by blocks number moment packet table refusal).outputs
request_of blocks number moment packet table (Some verdict) = replies_of number moment table.reports (on_request packet (verdict ∷ []))
request_of blocks number moment packet table None =
    let items = items_in (service_of packet) (subtype_of packet) (data_in packet) in
    let carried = carry_out blocks items table in
    replies_of number moment carried.table.reports (reports_on packet items carried)

grant_of : (number : ℕ) (table : Table) (ranged : Option Store) → AreOf number (grant_range number table ranged).outputs
grant_of number table (Some store) = one_of _
grant_of number table None = by (find has_ahead table.stores)
  where
    by : (store : Option Store) → AreOf number (grant_open number table store).outputs
    by (Some store) = one_of _
    by None = All-nil (λ (output : Output). output.command ≡ number)

-- what goes out on a command is of this command
pub step_of : (blocks number : ℕ) (command : Command) (table : Table) → AreOf number (step blocks number command table).outputs
step_of blocks number (Arrival moment packet) table = by (apid_of packet == 2047)
  where
    now : ℕ
    now = max table.now moment

    by : (idle : Bool) → AreOf number
        (if idle then record { table = record table { now = now }; outputs = [] }
        else behind_outputs (forwarded_on number packet table) (offer number moment (record { time = now; octets = packet }) table)).outputs
    by true = All-nil (λ (output : Output). output.command ≡ number)
    by false =
        let reports = flat_map (offer_report (record { time = now; octets = packet })) table.stores in
        All-append (λ (output : Output). output.command ≡ number) (forwarded_on number packet table) (replies_from number moment table.reports reports)
        (forwarded_of number packet table) (replies_of number moment table.reports reports)
step_of blocks number (Request moment packet) table = request_of blocks number moment packet table (refusal_of packet)
step_of blocks number (Grant moment) table = grant_of number table (find has_range table.stores)
step_of blocks number (Idle moment) table = All-nil (λ (output : Output). output.command ≡ number)

-- the outputs of a run have the numbers from its first one on
pub run_between : (blocks number : ℕ) (table : Table) (commands : List Command)
    → All (IsBetween number (number + length commands)) (run_from blocks number table commands).outputs
run_between blocks number table [] = All-nil (IsBetween number (number + 0))
run_between blocks number table (command ∷ commands) =
    let first = step blocks number command table in
    let end = number + length (command ∷ commands) in
    All-append (IsBetween number end) first.outputs (run_from blocks (number + 1) first.table commands).outputs
    (All-weaker (λ (output : Output). output.command ≡ number) (IsBetween number end) (λ output is. (omega (arith, is), omega (arith, is)))
    first.outputs (step_of blocks number command table))
    (All-weaker (IsBetween (number + 1) (number + 1 + length commands)) (IsBetween number end)
    (λ output between. (omega (arith, between.0), omega (arith, between.1)))
    (run_from blocks (number + 1) first.table commands).outputs (run_between blocks (number + 1) first.table commands))

abbrev InOrder : Output → Output → Type 0
InOrder first later = first.command ≤ later.command

-- outputs of one command, in front of those of later ones
order_append : (number : ℕ) (xs ys : List Output) → AreOf number xs → All (λ (output : Output). number ≤ output.command) ys → AllPairs InOrder ys → AllPairs InOrder (xs ++ ys)
order_append number [] ys own later order = order
order_append number (x ∷ xs) ys own later order =
    let is = All-head (λ (output : Output). output.command ≡ number) x xs own in
    let others = All-tail (λ (output : Output). output.command ≡ number) x xs own in
    AllPairs-cons InOrder x (xs ++ ys)
    (All-append (InOrder x) xs ys
    (All-weaker (λ (output : Output). output.command ≡ number) (InOrder x) (λ output same. omega (arith, is, same)) xs others)
    (All-weaker (λ (output : Output). number ≤ output.command) (InOrder x) (λ output le. omega (arith, is, le)) ys later))
    (order_append number xs ys others later order)

-- and never fall
pub run_in_order : (blocks number : ℕ) (table : Table) (commands : List Command) → AllPairs InOrder (run_from blocks number table commands).outputs
run_in_order blocks number table [] = λ i j d lt within. absurd (omega (arith, within))
run_in_order blocks number table (command ∷ commands) =
    let first = step blocks number command table in
    order_append number first.outputs (run_from blocks (number + 1) first.table commands).outputs (step_of blocks number command table)
    (All-weaker (IsBetween (number + 1) (number + 1 + length commands)) (λ (output : Output). number ≤ output.command) (λ output between. omega (arith, between.0))
    (run_from blocks (number + 1) first.table commands).outputs (run_between blocks (number + 1) first.table commands))
    (run_in_order blocks (number + 1) first.table commands)
