-- The instructions of a request that is not refused can be carried out.
use Rattle.std.proofs.Common.{◌≡◌, ℕ, true, false, not, List, [], ◌∷◌, sym, ◌∙◌, ap, subst, arith}
use Rattle.std.specs.Prelude.{All}
use Rattle.std.proofs.lemmas.List.Elements.{All-cons, All-head, All-nil, All-tail}
use Rattle.control_defs.specs.declared.instructions.Instruction.{Instruction}
use Rattle.pst_model.specs.Answers.{is_carried, is_pending}
use Rattle.pst_model.specs.Items.{kind_asked}
use Rattle.pst_model.specs.Requests.{AreAsked}
use Rattle.request_laws.specs.Counting.{CanBeCarried}

all_carried : (service subtype : ℕ) (items : List Instruction) → is_pending service subtype ≡ false
    → All (λ (item : Instruction). kind_asked item ≡ (service, subtype)) items → All (λ (item : Instruction). is_carried item ≡ true) items
all_carried service subtype [] known kinds = All-nil (λ (item : Instruction). is_carried item ≡ true)
all_carried service subtype (item ∷ items) known kinds =
    let asks : Instruction → Type 0 = λ item. kind_asked item ≡ (service, subtype) in
    let here = All-head asks item items kinds in
    All-cons (λ (item : Instruction). is_carried item ≡ true) item items
    (ap (λ (kind : ℕ × ℕ). not (is_pending kind.0 kind.1)) here ∙ ap not known)
    (all_carried service subtype items known (All-tail asks item items kinds))

pub can_be_carried : (service subtype : ℕ) (items : List Instruction) → AreAsked service subtype items → is_pending service subtype ≡ false → CanBeCarried items
can_be_carried service subtype [] asked known = absurd (omega (arith, asked.some))
can_be_carried service subtype (item ∷ items) asked known =
    let here = All-head (λ (x : Instruction). kind_asked x ≡ (service, subtype)) item items asked.kind in
    record {
      asked = subst (λ (kind : ℕ × ℕ). AreAsked kind.0 kind.1 (item ∷ items)) (sym here) asked;
      carried = all_carried service subtype (item ∷ items) known asked.kind;
    }
