-- What a request makes durable, and how it answers the model's.
use Rattle.std.proofs.Common.{◌≡◌, ℕ, true, false, List, [], ◌∷◌, map, Option, Some, None, Ok, Err, sym, ◌∙◌, ap, subst}
use Rattle.board.specs.Meaning.{BoardMeaning, TellsFlash}
use Rattle.board.specs.Moments.{LeavesOnly}
use Rattle.board.specs.Touches.{Touches}
use Rattle.control_defs.specs.declared.instructions.Instruction.{Instruction}
use Rattle.image_table.specs.Standing.{HoldsEitherTable}
use Rattle.pst_model.specs.Answers.{answer, answer_by, answer_carried, carry_out, data_in, refusal_of}
use Rattle.pst_model.specs.Replies.{replied, replies_from}
use Rattle.pst_model.specs.Reports.{verdict_report}
use Rattle.pst_model.specs.Requests.{items_in}
use Rattle.pst_model.specs.Rules.{Output, Step}
use Rattle.pst_model.specs.Table.{Table}
use Rattle.pst_model.specs.declared.verdicts.Verdict.{Verdict}
use Rattle.pus_header.specs.Commands.{acks_of, identifier_of, service_of, subtype_of}
use Rattle.request_laws.proofs.Reporting.{table_is}
use Rattle.request_laws.specs.Counting.{CanBeCarried, table_behind}
use Rattle.report_lines.specs.Counting.{IsCountOf}
use Rattle.report_lines.specs.Sending.{BreaksIn, SendsLines}
use Rattle.report_lines.specs.declared.sent.Sent.{Sent}
use Rattle.store_policy.specs.Shown.{IsTableShown}
use Rattle.store_policy.specs.declared.refusal.Refusal.{Refusal}
use Rattle.store_policy.specs.declared.view.View.{View}
use Rattle.vault.specs.Changing.{journal_pages}
use Rattle.vault.specs.Memory.{InMemory, IsSound, IsViewOf}
use Rattle.vault.specs.Requests.{failure_of}
use Rattle.vault.specs.Standing.{StandsFor}
use Rattle.handler.proofs.Answering.{outputs_are}
use Rattle.handler.proofs.InStep.{IsMade, IsQuiet, answers_done, answers_link, either_as, quiet_of, stands_as}
use Rattle.handler.proofs.Shown.{is_view, reports_of, some_shown, view_of}
use Rattle.handler.specs.Carrying.{Answers, IsBoardOf, IsShownBy, handler_of}
use Rattle.handler.specs.Reporting.{reports_for}
use Rattle.handler.specs.declared.fault.HandlerFault.TheVariants as faults

module _ {B : Type 0} (means : BoardMeaning B) (old mid : B) (before after : InMemory) (steps : (number : ℕ) → Table → Step) (next : Table → Table)
    (is : (number : ℕ) (table : Table) → next table ≡ (steps number table).table) {programs erases barriers : ℕ}
    (touches : Touches means journal_pages programs erases barriers old mid)
    (any_moment : TellsFlash means old → (table : Table) → StandsFor before (means.flash old) table
    → LeavesOnly means old mid (HoldsEitherTable before.blocks table (next table))) where
  pub change_quiet : IsQuiet means old mid before steps
  change_quiet =
      quiet_of means old mid before after steps (either_as means old mid before after steps next is any_moment) touches.unsent touches.same touches.work

  pub change_made : (TellsFlash means old → (table : Table) → StandsFor before (means.flash old) table → StandsFor after (means.flash mid) (next table))
      → IsSound after → after.blocks ≡ before.blocks → (means.counts mid).flash_faults ≡ (means.counts old).flash_faults
      → IsMade means old mid before after steps
  change_made stands sound blocks no_fault = record {
    quiet = change_quiet;
    stands = stands_as means old mid before after steps next is stands;
    sound = sound;
    blocks = blocks;
    flash = no_fault;
  }

-- the steps of a refusal, and of a request that is carried out

abbrev pub refused_steps : (request : List ℕ) (refused : Verdict) (moment : ℕ) → (number : ℕ) → Table → Step
refused_steps request refused moment number table = replied number moment table (verdict_report request refused ∷ [])

abbrev pub carried_steps : (blocks moment : ℕ) (packet : List ℕ) (items : List Instruction) → (number : ℕ) → Table → Step
carried_steps blocks moment packet items number table = answer_carried number moment packet items (carry_out blocks items table)

abbrev pub answer_steps : (blocks moment : ℕ) (packet : List ℕ) → (number : ℕ) → Table → Step
answer_steps blocks moment packet number table = answer blocks number moment packet table

-- the model's answer by its judgement

abbrev by_refusal : (blocks moment : ℕ) (packet : List ℕ) → Option Verdict → (number : ℕ) → Table → Step
by_refusal blocks moment packet refusal number table = answer_by blocks number moment packet table refusal

pub refused_is : (blocks moment : ℕ) (packet request : List ℕ) (refused : Verdict) → request ≡ identifier_of packet → refusal_of packet ≡ Some refused
    → refused_steps request refused moment ≡ answer_steps blocks moment packet
refused_is blocks moment packet request refused named is =
    ap (λ (r : List ℕ). refused_steps r refused moment) named ∙ sym (ap (by_refusal blocks moment packet) is)

pub carried_is : (blocks moment : ℕ) (packet : List ℕ) (items : List Instruction) → refusal_of packet ≡ None
    → items ≡ items_in (service_of packet) (subtype_of packet) (data_in packet)
    → carried_steps blocks moment packet items ≡ answer_steps blocks moment packet
carried_is blocks moment packet items none is =
    ap (carried_steps blocks moment packet) is ∙ sym (ap (by_refusal blocks moment packet) none)

pub behind_is : (blocks moment acks : ℕ) (packet : List ℕ) (items : List Instruction) → CanBeCarried items → acks_of packet ≡ acks
    → (number : ℕ) (table : Table) → table_behind blocks acks items table ≡ (carried_steps blocks moment packet items number table).table
behind_is blocks moment acks packet items request is number table = sym (table_is blocks table acks number moment packet items request is)

-- What carrying out instructions made durable, and which of them were refused.
pub record IsChanged {B : Type 0} (means : BoardMeaning B) (old mid : B) (before after : InMemory) (acks : ℕ) (items : List Instruction)
    (refused : List (ℕ × Refusal)) : Type 0 where
  pub any_moment : TellsFlash means old → (table : Table) → StandsFor before (means.flash old) table
      → LeavesOnly means old mid (HoldsEitherTable before.blocks table (table_behind before.blocks acks items table))
  pub stands : TellsFlash means old → (table : Table) → StandsFor before (means.flash old) table
      → StandsFor after (means.flash mid) (table_behind before.blocks acks items table)
  pub failures : (table : Table) (view : View) → IsViewOf view before → IsTableShown table view
      → map failure_of refused ≡ (carry_out before.blocks items table).failures

module _ {B : Type 0} (means : BoardMeaning B) (old mid new : B) (before after : InMemory) (acks : ℕ) (items : List Instruction) (refused : List (ℕ × Refusal))
    (changed : IsChanged means old mid before after acks items refused) {programs erases barriers : ℕ}
    (touches : Touches means journal_pages programs erases barriers old mid) (sound : IsSound after) (blocks : after.blocks ≡ before.blocks)
    (no_fault : (means.counts mid).flash_faults ≡ (means.counts old).flash_faults) (board : IsBoardOf means before old)
    (first moment : ℕ) (identifier packet : List ℕ) (failures : List (ℕ × ℕ)) (first_is : first ≡ before.directory.reports)
    (failures_is : failures ≡ map failure_of refused) (request : CanBeCarried items) (named : identifier_of packet ≡ identifier) (asked : acks_of packet ≡ acks) where
  abbrev steps : (number : ℕ) → Table → Step
  steps = carried_steps before.blocks moment packet items

  -- the lines, by a table that is shown
  abbrev lines : (number : ℕ) → Table → List Output
  lines number table = replies_from number moment first (reports_for identifier acks failures items table)

  carried_made : IsMade means old mid before after steps
  carried_made =
      change_made means old mid before after steps (table_behind before.blocks acks items) (behind_is before.blocks moment acks packet items request asked)
      touches changed.any_moment changed.stands sound blocks no_fault

  -- they are the model's
  lines_are : (table : Table) (number : ℕ) → StandsFor before (means.flash old) table
      → lines number (table_behind before.blocks acks items table) ≡ (steps number table).outputs
  lines_are table number stands =
      outputs_are before.blocks number moment first packet identifier acks failures items table
      (first_is ∙ sym (reports_of before (means.flash old) table stands)) named asked
      (failures_is ∙ changed.failures table (view_of before) (is_view before) (stands.shows (view_of before) (is_view before)))

  shown_behind : TellsFlash means old → (table : Table) → StandsFor before (means.flash old) table → IsShownBy after (table_behind before.blocks acks items table)
  shown_behind told table stands = (changed.stands told table stands).shows

  pub carried_done : (sent : Sent) → ((table : Table) (number : ℕ) → IsShownBy after table → SendsLines means mid new (lines number table))
      → ((table : Table) (number : ℕ) → IsShownBy after table → IsCountOf (lines number table) sent)
      → Answers means old new (handler_of before true) (handler_of after true) steps (Ok sent)
  carried_done sent sends counted =
      let (some, shown) = some_shown after sound in
      answers_done means old mid new before after steps board carried_made sent (lines 0 some) (sends some 0 shown)
      (λ told table number stands.
      subst (λ (outputs : List Output). SendsLines means mid new outputs) (lines_are table number stands)
      (sends (table_behind before.blocks acks items table) number (shown_behind told table stands)))
      (λ told table number stands.
      subst (λ (outputs : List Output). IsCountOf outputs sent) (lines_are table number stands)
      (counted (table_behind before.blocks acks items table) number (shown_behind told table stands)))

  pub carried_broke : ((table : Table) (number : ℕ) → IsShownBy after table → BreaksIn means mid new (lines number table))
      → Answers means old new (handler_of before true) (handler_of after false) steps (Err faults.Link)
  carried_broke breaks =
      let (some, shown) = some_shown after sound in
      answers_link means old mid new before after steps board carried_made (lines 0 some) (breaks some 0 shown)
      (λ told table number stands.
      subst (λ (outputs : List Output). BreaksIn means mid new outputs) (lines_are table number stands)
      (breaks (table_behind before.blocks acks items table) number (shown_behind told table stands)))
