-- A request for one instruction.
use Rattle.std.proofs.Common.{◌≡◌, ◌≤◌, true, false, Bool, [], ◌∷◌, refl, arith}
use Rattle.std.specs.Prelude.{if◌then◌else◌}
use Rattle.std.proofs.lemmas.List.Elements.{All-cons, All-nil}
use Rattle.control_defs.specs.Instructions.{IsInstruction}
use Rattle.control_defs.specs.declared.instructions.Instruction.{Instruction}
use Rattle.pst_model.specs.Answers.{is_carried}
use Rattle.pst_model.specs.Items.{HasOctets, is_alone, kind_asked}
use Rattle.request_laws.specs.Counting.{CanBeCarried}

few : (alone : Bool) → 1 ≤ (if alone then 1 else 32)
few true = omega arith
few false = omega arith

pub can_be_one : (item : Instruction) → is_carried item ≡ true → IsInstruction item → HasOctets item → CanBeCarried (item ∷ [])
can_be_one item carried lawful octets = record {
  asked = record {
    kind =
        All-cons (λ (other : Instruction). kind_asked other ≡ kind_asked item) item [] refl
        (All-nil (λ (other : Instruction). kind_asked other ≡ kind_asked item));
    lawful = All-cons IsInstruction item [] lawful (All-nil IsInstruction);
    fit = All-cons HasOctets item [] octets (All-nil HasOctets);
    some = omega arith;
    few = few (is_alone item);
  };
  carried =
      All-cons (λ (other : Instruction). is_carried other ≡ true) item [] carried
      (All-nil (λ (other : Instruction). is_carried other ≡ true));
}
