-- Reports that answer a request, some behind others.
use Rattle.std.proofs.Common.{◌≡◌, ◌<◌, ℕ, ◌+◌, List, [], ◌∷◌, ◌++◌, length, map, take, refl, sym, ◌∙◌, ap, arith, length-append}
use Rattle.std.proofs.lemmas.List.{length-map}
use Rattle.std.proofs.lemmas.List.Sums.{sum_by-cons}
use Rattle.std.specs.Prelude.{if◌then◌else◌}
use Rattle.control_defs.specs.declared.instructions.Instruction.{Instruction}
use Rattle.control_defs.specs.declared.instructions.Instruction.TheVariants.{Configuration, ForwardReport, ReportTypes, Status, Summary}
use Rattle.pst_model.proofs.Counted.{count_behind-more, replies_from-append}
use Rattle.pst_model.specs.Answers.{answer_carried, carry_out, completed, verdicts_before}
use Rattle.pst_model.specs.Contents.{content_report}
use Rattle.pst_model.specs.Laws.{is_reply, replies_in}
use Rattle.pst_model.specs.Replies.{replies_from, reply}
use Rattle.pst_model.specs.Reports.{Report, count_behind, verdict_report}
use Rattle.pst_model.specs.Rules.{Output, Reply}
use Rattle.pst_model.specs.Table.{Table}
use Rattle.pst_model.specs.declared.verdicts.Verdict.{Verdict}
use Rattle.pus_header.specs.Commands.{acks_of, identifier_of}
use Rattle.pus_report.specs.declared.head.Head.{Head}
use Rattle.report_lines.specs.Content.{HoldsReport}
use Rattle.request_laws.proofs.Reporting.{reports_stay}
use Rattle.request_laws.specs.Counting.{table_behind}
use Rattle.handler.specs.Reporting.{reports_for}

-- a content report does not speak of the count of reports
content_report-counted : (items : List Instruction) (table : Table) (n : ℕ) → content_report items (record table { reports = n }) ≡ content_report items table
content_report-counted [] table n = refl
content_report-counted (ForwardReport ∷ items) table n = refl
content_report-counted (ReportTypes store ∷ items) table n = refl
content_report-counted (Summary store ∷ items) table n = refl
content_report-counted (Status ∷ items) table n = refl
content_report-counted (Configuration ∷ items) table n = refl
content_report-counted (_ ∷ items) table n = refl

-- replies are as many as their reports
pub replies_in-replies : (number moment count : ℕ) (reports : List Report) → replies_in (replies_from number moment count reports) ≡ length reports
replies_in-replies number moment count [] = refl
replies_in-replies number moment count (report ∷ reports) =
    sum_by-cons (λ (output : Output). if is_reply output.kind then 1 else 0) (reply number moment count report) (replies_from number moment (count_behind count 1) reports)
    ∙ ap (λ (n : ℕ). 1 + n) (replies_in-replies number moment (count_behind count 1) reports) ∙ omega arith

-- reports in three parts, each with the sequence counts behind those of the one before it
three_parts : (number moment count : ℕ) (xs ys zs : List Report) → count < 16384 → replies_from number moment count (xs ++ ys ++ zs)
    ≡ (replies_from number moment count xs ++ replies_from number moment (count_behind count (length xs)) ys)
    ++ replies_from number moment (count_behind (count_behind count (length xs)) (length ys)) zs
three_parts number moment count xs ys zs small =
    let last : count_behind count (length (xs ++ ys)) ≡ count_behind (count_behind count (length xs)) (length ys) =
    ap (count_behind count) (length-append xs ys) ∙ sym (count_behind-more count (length xs) (length ys)) in
    replies_from-append number moment count (xs ++ ys) zs small
    ∙ (λ i. replies_from-append number moment count xs ys small i ++ replies_from number moment (last i) zs)

-- What answers a request goes out in three parts: the verdicts in front, the content report, and completion.
pub answer_parts : (number moment count : ℕ) (identifier : List ℕ) (acks : ℕ) (failures : List (ℕ × ℕ)) (items : List Instruction) (table : Table)
    (before after : List Verdict) (second third replies : ℕ) → count < 16384 → before ≡ verdicts_before acks failures → after ≡ completed acks failures
    → second ≡ count_behind count (length before) → third ≡ count_behind second replies → replies ≡ length (content_report items table)
    → (replies_from number moment count (map (verdict_report identifier) before) ++ replies_from number moment second (content_report items table))
    ++ replies_from number moment third (map (verdict_report identifier) after)
    ≡ replies_from number moment count (reports_for identifier acks failures items table)
answer_parts number moment count identifier acks failures items table before after second third replies small before-is after-is second-is third-is replies-is =
    let xs = map (verdict_report identifier) before in
    let ys = content_report items table in
    let zs = map (verdict_report identifier) after in
    let mid : count_behind count (length xs) ≡ second = ap (count_behind count) (length-map before (verdict_report identifier)) ∙ sym second-is in
    let last : count_behind (count_behind count (length xs)) (length ys) ≡ third =
    ap (λ (n : ℕ). count_behind n (length ys)) mid ∙ ap (count_behind second) (sym replies-is) ∙ sym third-is in
    sym (λ i. (replies_from number moment count xs ++ replies_from number moment (mid i) ys) ++ replies_from number moment (last i) zs)
    ∙ sym (three_parts number moment count xs ys zs small)
    ∙ (λ i. replies_from number moment count
    (map (verdict_report identifier) (before-is i) ++ ys ++ map (verdict_report identifier) (after-is i)))

-- These are the outputs of the request in the model.
pub outputs_are : (blocks number moment first : ℕ) (packet identifier : List ℕ) (acks : ℕ) (failures : List (ℕ × ℕ)) (items : List Instruction) (table : Table)
    → first ≡ table.reports → identifier_of packet ≡ identifier → acks_of packet ≡ acks → failures ≡ (carry_out blocks items table).failures
    → replies_from number moment first (reports_for identifier acks failures items (table_behind blocks acks items table))
    ≡ (answer_carried number moment packet items (carry_out blocks items table)).outputs
outputs_are blocks number moment first packet identifier acks failures items table first-is identifier-is acks-is failures-is =
    let carried = carry_out blocks items table in
    let count : first ≡ carried.table.reports = first-is ∙ sym (reports_stay blocks table items) in
    let content : content_report items (table_behind blocks acks items table) ≡ content_report items carried.table =
    content_report-counted items carried.table (table_behind blocks acks items table).reports in
    let named = sym identifier-is in
    let asked = sym acks-is in
    λ i. replies_from number moment (count i)
    (map (verdict_report (named i)) (verdicts_before (asked i) (failures-is i)) ++ content i
    ++ map (verdict_report (named i)) (completed (asked i) (failures-is i)))

-- the one report that a buffer holds, as an output
pub reply_held : (number : ℕ) (head : Head) (reports : List Report) (out : List ℕ) (size : ℕ) → HoldsReport reports head out size
    → ◌≡◌ {A = List Output} (record { command = number; kind = Reply; channel = 0; packet = take size out } ∷ []) (replies_from number head.moment head.count reports)
reply_held number head reports out size held =
    ap (λ (packet : List ℕ). record { command = number; kind = Reply; channel = 0; packet = packet } ∷ []) held.written
    ∙ ap (replies_from number head.moment head.count) (sym held.only)
