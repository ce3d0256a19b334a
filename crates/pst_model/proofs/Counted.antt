-- Each report raises the count of reports by one.
use Rattle.std.proofs.Common.{◌≡◌, ◌<◌, ℕ, ◌+◌, List, [], ◌∷◌, ◌++◌, Option, Some, None, length, refl, sym, ◌∙◌, ap, arith}
use Rattle.std.proofs.lemmas.Bool.{cond_both}
use Rattle.std.proofs.lemmas.List.Sums.{sum_by-cons}
use Rattle.std.specs.Prelude.{find, flat_map, max, ◌==◌, if◌then◌else◌}
use Rattle.space_packet.specs.Packet.{apid_of}
use Rattle.pus_header.specs.Keys.{key_of}
use Rattle.pus_header.specs.Commands.{service_of, subtype_of}
use Rattle.pst_model.specs.declared.verdicts.Verdict.{Verdict}
use Rattle.pst_model.specs.Answers.{answer_by, carry_out, data_in, on_request, refusal_of, reports_on}
use Rattle.pst_model.specs.Arrivals.{arrive, forwarded_on, offer_report}
use Rattle.pst_model.specs.Command.{Command, Arrival, Request, Grant, Idle}
use Rattle.pst_model.specs.Laws.{is_reply, replies_in}
use Rattle.pst_model.specs.Replies.{replied, replies_from, reply}
use Rattle.pst_model.specs.Reports.{Report, count_behind}
use Rattle.pst_model.specs.Requests.{items_in}
use Rattle.control_defs.specs.Patterns.{any_covers}
use Rattle.pst_model.specs.Rules.{Output, Forwarded, Step, grant_open, grant_range, has_ahead, has_range}
use Rattle.pst_model.specs.Run.{step}
use Rattle.pst_model.specs.Table.{Store, Stored, Table}
use Rattle.pst_model.proofs.Carried.{carry_keeps, instruct_reports}

pub replies_from-length : (number moment count : ℕ) (reports : List Report) → length (replies_from number moment count reports) ≡ length reports
replies_from-length number moment count [] = refl
replies_from-length number moment count (report ∷ reports) = omega (arith, replies_from-length number moment (count_behind count 1) reports)

replies_in-replies : (number moment count : ℕ) (reports : List Report) → replies_in (replies_from number moment count reports) ≡ length reports
replies_in-replies number moment count [] = refl
replies_in-replies number moment count (report ∷ reports) =
    sum_by-cons (λ (output : Output). if is_reply output.kind then 1 else 0) (reply number moment count report) (replies_from number moment (count_behind count 1) reports)
    ∙ ap (λ (n : ℕ). 1 + n) (replies_in-replies number moment (count_behind count 1) reports) ∙ omega arith

-- no report is none more
none : (count : ℕ) → count < 16384 → count ≡ count_behind count 0
none count small = omega arith

-- counts of reports, one behind the other
pub count_behind-more : (count a b : ℕ) → count_behind (count_behind count a) b ≡ count_behind count (a + b)
count_behind-more count a b = omega arith

pub replies_from-append : (number moment count : ℕ) (xs ys : List Report) → count < 16384
    → replies_from number moment count (xs ++ ys) ≡ replies_from number moment count xs ++ replies_from number moment (count_behind count (length xs)) ys
replies_from-append number moment count [] ys small = ap (λ (n : ℕ). replies_from number moment n ys) (none count small)
replies_from-append number moment count (report ∷ xs) ys small =
    ap (λ (rest : List Output). reply number moment count report ∷ rest)
    (replies_from-append number moment (count_behind count 1) xs ys (omega arith)
    ∙ ap (λ (n : ℕ). replies_from number moment (count_behind count 1) xs ++ replies_from number moment n ys)
    (count_behind-more count 1 (length xs) ∙ ap (count_behind count) (omega arith)))

-- a step whose reports are counted behind this count
abbrev IsCounted : ℕ → Step → Type 0
IsCounted count step = step.table.reports ≡ count_behind count (replies_in step.outputs)

replied_counted : (number moment count : ℕ) (table : Table) (reports : List Report) → table.reports ≡ count → IsCounted count (replied number moment table reports)
replied_counted number moment count table reports is =
    ap (λ (n : ℕ). count_behind n (length reports)) is ∙ ap (count_behind count) (sym (replies_in-replies number moment table.reports reports))

answer_counted : (blocks number moment : ℕ) (packet : List ℕ) (table : Table) (refusal : Option Verdict) → IsCounted table.reports (answer_by blocks number moment packet table refusal)
answer_counted blocks number moment packet table (Some verdict) = replied_counted number moment table.reports table (on_request packet (verdict ∷ [])) refl
answer_counted blocks number moment packet table None =
    let items = items_in (service_of packet) (subtype_of packet) (data_in packet) in
    let carried = carry_out blocks items table in
    replied_counted number moment table.reports carried.table (reports_on packet items carried)
    (carry_keeps blocks (λ (next : Table). next.reports ≡ table.reports) (instruct_reports table.reports blocks) 1 (items_in (service_of packet) (subtype_of packet) (data_in packet)) table refl)

offer_counted : (number moment count : ℕ) (packet : List ℕ) (table : Table) (reports : List Report)
    → replies_in (forwarded_on number packet table ++ replies_from number moment count reports) ≡ length reports
offer_counted number moment count packet table reports =
    let replies = replies_from number moment count reports in
    let forwarded : Output = record { command = number; kind = Forwarded; channel = 0; packet = packet } in
    cond_both (any_covers table.forward (key_of packet)) (forwarded ∷ []) [] (λ (outputs : List Output). replies_in (outputs ++ replies) ≡ length reports)
    (λ covered. sum_by-cons (λ (output : Output). if is_reply output.kind then 1 else 0) forwarded replies ∙ ap (λ (n : ℕ). 0 + n) (replies_in-replies number moment count reports) ∙ omega arith)
    (λ uncovered. replies_in-replies number moment count reports)

arrive_counted : (number moment : ℕ) (packet : List ℕ) (table : Table) → table.reports < 16384 → IsCounted table.reports (arrive number moment packet table)
arrive_counted number moment packet table small =
    let stored : Stored = record { time = max table.now moment; octets = packet } in
    cond_both (apid_of packet == 2047) _ _ (IsCounted table.reports) (λ idle. none table.reports small)
    (λ other. ap (count_behind table.reports) (sym (offer_counted number moment table.reports packet table (flat_map (offer_report stored) table.stores))))

open_counted : (number : ℕ) (table : Table) (store : Option Store) → table.reports < 16384 → IsCounted table.reports (grant_open number table store)
open_counted number table None small = none table.reports small
open_counted number table (Some store) small = none table.reports small

range_counted : (number : ℕ) (table : Table) (store : Option Store) → table.reports < 16384 → IsCounted table.reports (grant_range number table store)
range_counted number table None small = open_counted number table (find has_ahead table.stores) small
range_counted number table (Some store) small = none table.reports small

pub step_counted : (blocks number : ℕ) (command : Command) (table : Table) → table.reports < 16384 → IsCounted table.reports (step blocks number command table)
step_counted blocks number (Arrival moment packet) table small = arrive_counted number moment packet table small
step_counted blocks number (Request moment packet) table small = answer_counted blocks number moment packet table (refusal_of packet)
step_counted blocks number (Grant moment) table small = range_counted number table (find has_range table.stores) small
step_counted blocks number (Idle moment) table small = none table.reports small
