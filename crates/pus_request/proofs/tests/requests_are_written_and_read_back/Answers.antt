use Rattle.std.proofs.Common.{◌≡◌, refl, rules}
use Rattle.std.proofs.lemmas.List.Elements.{All-replicate}
use Rattle.control_defs.specs.declared.instructions.Instruction.{Instruction}
use Rattle.control_defs.specs.declared.instructions.Instruction.TheVariants.{Copy}
use Rattle.control_defs.specs.Instructions.{IsInstruction}
use Rattle.pst_model.specs.Items.{HasOctets, kind_asked}
use Rattle.pus_request.proofs.tests.requests_are_written_and_read_back.Goals as goal

-- 32 of the widest instruction, each as the first
pub write_request-requires-2-clause-asked : goal.write_request-requires-2-clause-asked
write_request-requires-2-clause-asked c _ =
    let widest : Instruction = Copy 7 8 0 281474976710655 in
    record {
      kind = All-replicate (λ item. kind_asked item ≡ (15, 24)) 32 widest refl;
      lawful = All-replicate IsInstruction 32 widest (search rules);
      fit = All-replicate HasOctets 32 widest (search rules);
      some = search rules;
      few = search rules;
    }
