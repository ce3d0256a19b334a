use Rattle.std.proofs.Common.{◌∙◌}
use Rattle.control_defs.specs.declared.instructions.Instruction.TheVariants.{StartRange}
use Rattle.octet_fields.proofs.Parts.{same_three}
use Rattle.octet_fields.proofs.Numbers.{number_behind}
use Rattle.pus_request.proofs.spelled.start_range_at.Goals as goal

pub returns : goal.returns
returns c =
    let at = c.args.at in
    let body = c.args.body.now in
    same_three StartRange c.u16_at.ensures (c.u48_at.ensures.value ∙ number_behind 6 2 at body) (c.u48_at-2.ensures.value ∙ number_behind 6 8 at body)
