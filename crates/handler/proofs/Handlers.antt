-- A handler, by its vault and whether it is open.
use Rattle.std.proofs.Common.{◌≡◌, inl, ℕ, Bool, true, List, [], Ok, refl, sym, subst}
use Rattle.std.specs.Prelude.{Result, is_ok}
use Rattle.board.specs.Flash.{IsImage}
use Rattle.board.specs.Meaning.{BoardMeaning, TellsFlash}
use Rattle.board.proofs.Runs as sendings
use Rattle.board.proofs.Stops as stops
use Rattle.image_table.specs.Standing.{HoldsEitherTable}
use Rattle.pst_model.specs.Rules.{Step}
use Rattle.pst_model.specs.Table.{Table}
use Rattle.report_lines.proofs.Sendings.{lines_none}
use Rattle.report_lines.specs.Counting.{IsCountOf}
use Rattle.report_lines.specs.declared.sent.Sent.{Sent}
use Rattle.vault.proofs.Stopped.{image_holds}
use Rattle.vault.specs.Memory.{InMemory, IsSound}
use Rattle.handler.proofs.InStep.{IsMade, answers_done}
use Rattle.handler.specs.Carrying.{Answers, Held, IsBoardOf, handler_of}
use Rattle.handler.specs.declared.fault.HandlerFault.{HandlerFault}

-- nothing was done, and nothing sent
pub answers_idle : {B : Type 0} (means : BoardMeaning B) (old : B) (vault : InMemory) (sent : Sent) → IsSound vault → IsBoardOf means vault old
    → ((image : ℕ → List ℕ) → TellsFlash means old → means.images old (means.moment old) image → IsImage (means.device old).blocks (means.flash old) image)
    → IsCountOf [] sent → Answers means old old (handler_of vault true) (handler_of vault true) (λ number table. record { table = table; outputs = [] }) (Ok sent)
answers_idle {B} means old vault sent sound board now counted =
    let steps : ℕ → Table → Step = λ number table. record { table = table; outputs = [] } in
    let made : IsMade means old old vault vault steps = record {
      quiet = record {
        either = λ told table number stands.
            stops.started means old (HoldsEitherTable vault.blocks table table)
            (λ image left. inl (image_holds vault (means.flash old) table image sound stands
            (subst (λ (n : ℕ). IsImage n (means.flash old) image) (sym board.blocks) (now image told left))));
        unsent = λ link. sendings.sends_nothing_yet means old;
        same = refl;
        link = refl;
        sends = refl;
      };
      stands = λ told table number stands. stands;
      sound = sound;
      blocks = refl;
      flash = refl;
    } in
    let none = lines_none means old now in
    answers_done means old old old vault vault steps board made sent [] none (λ told table number stands. none) (λ told table number stands. counted)

-- a handler by its vault, and whether it is open
pub answers_as : {B : Type 0} (means : BoardMeaning B) (old new : B) (before after : Held) (steps : (number : ℕ) → Table → Step) (result : Result Sent HandlerFault)
    → before.is_open ≡ true → after.is_open ≡ is_ok result
    → Answers means old new (handler_of before.vault true) (handler_of after.vault (is_ok result)) steps result
    → Answers means old new before after steps result
answers_as means old new before after steps result was now answers =
    subst (λ (open_now : Bool). Answers means old new before (handler_of after.vault open_now) steps result) (sym now)
    (subst (λ (open_then : Bool). Answers means old new (handler_of before.vault open_then) (handler_of after.vault (is_ok result)) steps result) (sym was) answers)

pub idle_as : {B : Type 0} (means : BoardMeaning B) (old new : B) (before : Held) (now : InMemory) (is_open : Bool) (sent : Sent) (result : Result Sent HandlerFault)
    → new ≡ old → now ≡ before.vault → is_open ≡ true → before.is_open ≡ true → result ≡ Ok sent → IsSound before.vault → IsBoardOf means before.vault old
    → ((image : ℕ → List ℕ) → TellsFlash means old → means.images old (means.moment old) image → IsImage (means.device old).blocks (means.flash old) image)
    → IsCountOf [] sent → Answers means old new before (handler_of now is_open) (λ number table. record { table = table; outputs = [] }) result
idle_as {B} means old new before now is_open sent result board_is vault_is opened was result_is sound board images counted =
    let steps : ℕ → Table → Step = λ number table. record { table = table; outputs = [] } in
    subst (λ (r : Result Sent HandlerFault). Answers means old new before (handler_of now is_open) steps r) (sym result_is)
    (subst (λ (b : B). Answers means old b before (handler_of now is_open) steps (Ok sent)) (sym board_is)
    (subst (λ (v : InMemory). Answers means old old before (handler_of v is_open) steps (Ok sent)) (sym vault_is)
    (subst (λ (o : Bool). Answers means old old before (handler_of before.vault o) steps (Ok sent)) (sym opened)
    (subst (λ (o : Bool). Answers means old old (handler_of before.vault o) (handler_of before.vault true) steps (Ok sent)) (sym was)
    (answers_idle means old before.vault sent sound board images counted)))))

-- a handler whose vault has carried out a command
pub handler_as : {B : Type 0} (means : BoardMeaning B) (old new : B) (before : Held) (vault now : InMemory) (is_open : Bool) (steps : (number : ℕ) → Table → Step) (result : Result Sent HandlerFault)
    → vault ≡ before.vault → before.is_open ≡ true → is_open ≡ is_ok result → Answers means old new (handler_of vault true) (handler_of now (is_ok result)) steps result
    → Answers means old new before (handler_of now is_open) steps result
handler_as means old new before vault now is_open steps result vault_is was now_is answers =
    answers_as means old new before (handler_of now is_open) steps result was now_is
    (subst (λ (v : InMemory). Answers means old new (handler_of v true) (handler_of now (is_ok result)) steps result) vault_is answers)
