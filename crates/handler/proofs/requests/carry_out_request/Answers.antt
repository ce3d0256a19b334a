use Rattle.std.proofs.Common.{◌≡◌, ℕ, List, map, take, ◌∙◌, ap, subst}
use Rattle.board.specs.Meaning.{TellsFlash}
use Rattle.board.specs.Moments.{LeavesOnly}
use Rattle.control_defs.specs.declared.instructions.Instruction.{Instruction}
use Rattle.image_table.specs.Standing.{HoldsEitherTable}
use Rattle.pst_model.specs.Table.{Table}
use Rattle.pus_request.specs.View.{listed}
use Rattle.request_laws.specs.Counting.{table_behind}
use Rattle.vault.specs.Requests.{failure_of}
use Rattle.vault.specs.Standing.{StandsFor}
use Rattle.handler.proofs.Asked.{IsChanged, behind_is, carried_broke, carried_done, carried_steps, change_quiet}
use Rattle.handler.proofs.InStep.{answers_flash, works_within}
use Rattle.handler.proofs.Shown.{some_shown}
use Rattle.handler.proofs.requests.carry_out_request.Goals as goal

pub returns-in_default-clause-answers : goal.returns-in_default-clause-answers
returns-in_default-clause-answers g c packet named asked =
    let means = g.B.Board.means in
    let old = c.args.board.now in
    let mid = c.change.new.board in
    let vault = c.args.vault.now in
    let request = c.args.request.now in
    let items = listed request.items in
    let all : take c.len.result c.instructions-list.result ≡ items =
    ap (λ (n : ℕ). take n c.instructions-list.result) c.len.ensures.length ∙ c.instructions-list.ensures in
    let any_moment =
    subst (λ (l : List Instruction). TellsFlash means old → (table : Table) → StandsFor vault (means.flash old) table
    → LeavesOnly means old mid (HoldsEitherTable vault.blocks table (table_behind vault.blocks request.acks l table))) all c.in_default.ensures.any_moment in
    let steps = carried_steps vault.blocks c.args.moment packet items in
    answers_flash means old mid vault steps
    (change_quiet means old mid vault c.change.new.self steps (table_behind vault.blocks request.acks items)
    (behind_is vault.blocks c.args.moment request.acks packet items c.requires.carried asked) c.in_default.ensures.touches any_moment)
    c.change.new.self c.in_default.ensures.cause

pub returns-in-Ok-send_answer-clause-answers : goal.returns-in-Ok-send_answer-clause-answers
returns-in-Ok-send_answer-clause-answers g c packet named asked =
    let means = g.B.Board.means in
    let old = c.args.board.now in
    let mid = c.change.new.board in
    let vault = c.args.vault.now in
    let request = c.args.request.now in
    let items = listed request.items in
    let refused = c.in-Ok.outcome.refused.items in
    let all : take c.len.result c.instructions-list.result ≡ items =
    ap (λ (n : ℕ). take n c.instructions-list.result) c.len.ensures.length ∙ c.instructions-list.ensures in
    let changed =
    subst (λ (l : List Instruction). IsChanged means old mid vault c.change.new.self request.acks l refused) all
    (record { any_moment = c.in-Ok.ensures.any_moment; stands = c.in-Ok.ensures.stands; failures = c.in-Ok.ensures.refused }) in
    carried_done means old mid c.send_answer.new.board vault c.change.new.self request.acks items refused changed c.in-Ok.ensures.touches
    c.in-Ok.ensures.sound c.in-Ok.ensures.blocks c.in-Ok.ensures.no_fault c.requires.board c.in-Ok.outcome.first_report c.args.moment request.identifier packet
    c.as_slice-2.result.now c.in-Ok.ensures.first_report
    (c.as_slice-2.ensures.value ∙ c.failures_of-failures.ensures ∙ ap (λ l. map failure_of l) c.as_slice.ensures.value)
    c.requires.carried named asked c.in-Ok-send_answer.sent c.in-Ok-send_answer.ensures.sends c.in-Ok-send_answer.ensures.counted

pub returns-in-Ok-send_answer-clause-work : goal.returns-in-Ok-send_answer-clause-work
returns-in-Ok-send_answer-clause-work g c =
    let (some, shown) = some_shown c.change.new.self c.in-Ok.ensures.sound in
    works_within c.in-Ok.ensures.touches.work (c.in-Ok-send_answer.ensures.sends some 0 shown).work

pub returns-in-Err-clause-answers : goal.returns-in-Err-clause-answers
returns-in-Err-clause-answers g c packet named asked =
    let means = g.B.Board.means in
    let old = c.args.board.now in
    let mid = c.change.new.board in
    let vault = c.args.vault.now in
    let request = c.args.request.now in
    let items = listed request.items in
    let refused = c.in-Ok.outcome.refused.items in
    let all : take c.len.result c.instructions-list.result ≡ items =
    ap (λ (n : ℕ). take n c.instructions-list.result) c.len.ensures.length ∙ c.instructions-list.ensures in
    let changed =
    subst (λ (l : List Instruction). IsChanged means old mid vault c.change.new.self request.acks l refused) all
    (record { any_moment = c.in-Ok.ensures.any_moment; stands = c.in-Ok.ensures.stands; failures = c.in-Ok.ensures.refused }) in
    carried_broke means old mid c.send_answer.new.board vault c.change.new.self request.acks items refused changed c.in-Ok.ensures.touches
    c.in-Ok.ensures.sound c.in-Ok.ensures.blocks c.in-Ok.ensures.no_fault c.requires.board c.in-Ok.outcome.first_report c.args.moment request.identifier packet
    c.as_slice-2.result.now c.in-Ok.ensures.first_report
    (c.as_slice-2.ensures.value ∙ c.failures_of-failures.ensures ∙ ap (λ l. map failure_of l) c.as_slice.ensures.value)
    c.requires.carried named asked c.in-Err.ensures.breaks

pub returns-in-Err-clause-work : goal.returns-in-Err-clause-work
returns-in-Err-clause-work g c =
    let (some, shown) = some_shown c.change.new.self c.in-Ok.ensures.sound in
    works_within c.in-Ok.ensures.touches.work (c.in-Err.ensures.breaks some 0 shown).work
