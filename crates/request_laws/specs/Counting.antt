-- How many reports answer a request.
use Rattle.std.specs.Prelude.{◌≡◌, ℕ, ◌+◌, ◌==◌, ◌&&◌, ◌||◌, nat_lt, Bool, true, false, if◌then◌else◌, All, List, ◌∷◌, length}
use Rattle.control_defs.specs.declared.instructions.Instruction.{Instruction}
use Rattle.control_defs.specs.declared.instructions.Instruction.TheVariants.{ForwardReport, ReportTypes, Summary, Status, Configuration}
use Rattle.pst_model.specs.Answers.{asks_acceptance, asks_completion, asks_start, carry_out, is_carried}
use Rattle.pst_model.specs.Reports.{count_behind}
use Rattle.pst_model.specs.Requests.{AreAsked, service_of_items, subtype_of_items}
use Rattle.pst_model.specs.Table.{Table}

-- Instructions that one request asks for, each of a kind that is carried out.
pub record CanBeCarried (items : List Instruction) : Type 0 where
  pub asked : AreAsked (service_of_items items) (subtype_of_items items) items
  pub carried : All (λ (item : Instruction). is_carried item ≡ true) items

abbrev pub one_if : Bool → ℕ
one_if test = if test then 1 else 0

-- whether instructions of one kind ask for a content report
abbrev pub ask_content : List Instruction → Bool
ask_content (ForwardReport ∷ items) = true
ask_content (ReportTypes store ∷ items) = true
ask_content (Summary store ∷ items) = true
ask_content (Status ∷ items) = true
ask_content (Configuration ∷ items) = true
ask_content _ = false

-- How many reports answer a request with these acknowledgement flags, so many of whose instructions
-- failed: [1,1] where asked, [1,4] for each failure, [1,3] where asked and none failed, the content
-- report where one is asked for and not all failed, and [1,8] where some failed, or [1,7] where asked.
abbrev pub reports_made : (acks : ℕ) → List Instruction → (failed : ℕ) → ℕ
reports_made acks items failed =
    one_if (asks_acceptance acks) + failed + one_if (failed == 0 && asks_start acks)
    + one_if (ask_content items && nat_lt failed (length items))
    + one_if (nat_lt 0 failed || asks_completion acks)

-- the reports of a request that is carried out on a table
abbrev pub reports_on_table : (blocks acks : ℕ) → List Instruction → Table → ℕ
reports_on_table blocks acks items table =
    reports_made acks items (length (carry_out blocks items table).failures)

-- The table behind a request with these acknowledgement flags: its instructions were carried out, and
-- its reports are counted.
abbrev pub table_behind : (blocks acks : ℕ) → List Instruction → Table → Table
table_behind blocks acks items table =
    record (carry_out blocks items table).table {
      reports = count_behind table.reports (reports_on_table blocks acks items table);
    }
