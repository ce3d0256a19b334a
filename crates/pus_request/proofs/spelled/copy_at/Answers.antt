use Rattle.std.proofs.Common.{◌∙◌}
use Rattle.control_defs.specs.declared.instructions.Instruction.TheVariants.{Copy}
use Rattle.octet_fields.proofs.Parts.{same_four}
use Rattle.octet_fields.proofs.Numbers.{number_behind}
use Rattle.pus_request.proofs.spelled.copy_at.Goals as goal

pub returns : goal.returns
returns c =
    let at = c.args.at in
    let body = c.args.body.now in
    same_four Copy c.u16_at.ensures (c.u16_at-2.ensures ∙ number_behind 2 2 at body) (c.u48_at.ensures.value ∙ number_behind 6 4 at body)
    (c.u48_at-2.ensures.value ∙ number_behind 6 10 at body)
