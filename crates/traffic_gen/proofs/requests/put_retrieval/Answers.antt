use Rattle.std.proofs.Common.{ℕ, [], ◌∷◌, ◌+◌, length, ap, subst, ◌∙◌}
use Rattle.octet_fields.specs.Fields.{Writes}
use Rattle.control_defs.specs.declared.instructions.Instruction.TheVariants.{StartRange}
use Rattle.traffic_gen.specs.Lines.{command_line}
use Rattle.traffic_gen.specs.Traffic.{asking}
use Rattle.traffic_gen.proofs.requests.put_retrieval.Goals as goal

pub returns-clause-end : goal.returns-clause-end
returns-clause-end c =
    c.put_request.ensures.end
    ∙ ap (λ (moment : ℕ). c.args.at + length (command_line (asking moment c.args.count (StartRange c.args.store 65536 moment ∷ [])))) c.time_of-moment.ensures.value

pub returns-clause-line : goal.returns-clause-line
returns-clause-line c =
    subst
    (λ (moment : ℕ). Writes c.args.out.now c.put_request.new.out c.args.at (command_line (asking moment c.args.count (StartRange c.args.store 65536 moment ∷ []))))
    c.time_of-moment.ensures.value c.put_request.ensures.line
