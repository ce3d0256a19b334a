-- How many reports answer a request.
use Rattle.std.proofs.Common.{◌≡◌, ℕ, suc, ◌+◌, ◌==◌, ◌&&◌, ◌||◌, nat_lt, Bool, true, false, List, [], ◌∷◌, ◌++◌, length, map, length-append, refl, sym, ◌∙◌, ap, arith}
use Rattle.std.proofs.lemmas.Bool.{lt-ltb, ne_eqb}
use Rattle.std.proofs.lemmas.List.{length-map}
use Rattle.control_defs.specs.declared.instructions.Instruction.{Instruction}
use Rattle.pst_model.specs.Answers.{Carried, answer_carried, asks_acceptance, asks_completion, asks_start, carry_out, completed, failed_start, if_asked, on_request, reports_on, started, verdicts_before}
use Rattle.pst_model.specs.Contents.{content_report}
use Rattle.pst_model.specs.Reports.{Report, count_behind, verdict_report}
use Rattle.pst_model.specs.Table.{Table}
use Rattle.pst_model.proofs.Carried.{carry_keeps, instruct_reports}
use Rattle.pst_model.specs.declared.verdicts.Verdict.{Verdict}
use Rattle.pst_model.specs.declared.verdicts.Verdict.TheVariants.{Accepted, Completed, Started}
use Rattle.pus_header.specs.Commands.{acks_of, identifier_of}
use Rattle.request_laws.proofs.Contents.{content}
use Rattle.request_laws.specs.Counting.{CanBeCarried, ask_content, one_if, reports_made, reports_on_table, table_behind}

-- verdicts

length-asked : (asked : Bool) (verdict : Verdict) → length (if_asked asked verdict) ≡ one_if asked
length-asked true verdict = refl
length-asked false verdict = refl

length-started : (acks : ℕ) (failures : List (ℕ × ℕ)) → length (started acks failures) ≡ one_if (length failures == 0 && asks_start acks)
length-started acks [] = length-asked (asks_start acks) Started
length-started acks (failure ∷ failures) =
    sym (ap (λ (none : Bool). one_if (none && asks_start acks)) (ne_eqb (suc (length failures)) 0 (λ is. omega (arith, is))))

length-completed : (acks : ℕ) (failures : List (ℕ × ℕ)) → length (completed acks failures) ≡ one_if (nat_lt 0 (length failures) || asks_completion acks)
length-completed acks [] = length-asked (asks_completion acks) Completed
length-completed acks (failure ∷ failures) =
    sym (ap (λ (some : Bool). one_if (some || asks_completion acks)) (lt-ltb 0 (suc (length failures)) (omega arith)))

length-before : (acks : ℕ) (failures : List (ℕ × ℕ)) → length (verdicts_before acks failures) ≡ one_if (asks_acceptance acks) + length failures + one_if (length failures == 0 && asks_start acks)
length-before acks failures =
    omega (
      arith,
      length-append (if_asked (asks_acceptance acks) Accepted ++ map failed_start failures) (started acks failures),
      length-append (if_asked (asks_acceptance acks) Accepted) (map failed_start failures),
      length-append (if_asked (asks_acceptance acks) Accepted) (map failed_start failures ++ started acks failures),
      length-append (map failed_start failures) (started acks failures),
      length-map failures failed_start,
      length-started acks failures,
      length-asked (asks_acceptance acks) Accepted,
    )

length-on : (packet : List ℕ) (verdicts : List Verdict) → length (on_request packet verdicts) ≡ length verdicts
length-on packet verdicts = length-map verdicts (verdict_report (identifier_of packet))

-- the reports of a request, by that of its content
pub counted : (acks : ℕ) (packet : List ℕ) (items : List Instruction) (carried : Carried) → acks_of packet ≡ acks
    → length (content_report items carried.table) ≡ one_if (ask_content items && nat_lt (length carried.failures) (length items))
    → length (reports_on packet items carried) ≡ reports_made acks items (length carried.failures)
counted acks packet items carried is content =
    let middle = content_report items carried.table in
    ap (λ (a : ℕ). length (on_request packet (verdicts_before a carried.failures) ++ middle ++ on_request packet (completed a carried.failures))) is
    ∙ whole (on_request packet (verdicts_before acks carried.failures)) middle (on_request packet (completed acks carried.failures))
    ∙ (λ i. (length-on packet (verdicts_before acks carried.failures) ∙ length-before acks carried.failures) i + content i
    + (length-on packet (completed acks carried.failures) ∙ length-completed acks carried.failures) i)
  where
    whole : (front middle back : List Report) → length (front ++ middle ++ back) ≡ length front + length middle + length back
    whole front middle back =
        omega (arith, length-append front (middle ++ back), length-append middle back, length-append (front ++ middle) back, length-append front middle)

module _ (blocks : ℕ) (table : Table) where
  pub all_counted : (acks : ℕ) (packet : List ℕ) (items : List Instruction) → CanBeCarried items → acks_of packet ≡ acks
      → length (reports_on packet items (carry_out blocks items table)) ≡ reports_on_table blocks acks items table
  all_counted acks packet items request is = counted acks packet items (carry_out blocks items table) is (content blocks table items request)

  -- no instruction changes the number of reports
  pub reports_stay : (items : List Instruction) → (carry_out blocks items table).table.reports ≡ table.reports
  reports_stay items =
      carry_keeps blocks (λ (t : Table). t.reports ≡ table.reports) (λ item t. instruct_reports table.reports blocks item t) 1 items table refl

  pub table_is : (acks number moment : ℕ) (packet : List ℕ) (items : List Instruction) → CanBeCarried items → acks_of packet ≡ acks
      → (answer_carried number moment packet items (carry_out blocks items table)).table ≡ table_behind blocks acks items table
  table_is acks number moment packet items request is =
      λ i. record (carry_out blocks items table).table { reports = count_behind (reports_stay items i) (all_counted acks packet items request is i) }
