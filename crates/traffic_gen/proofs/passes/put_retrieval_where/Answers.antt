use Rattle.std.proofs.Common.{List, ℕ, Bool, subst, sym, ap, ◌∙◌}
use Rattle.octet_fields.specs.Fields.{Writes}
use Rattle.traffic_gen.specs.Lines.{text_of}
use Rattle.traffic_gen.specs.Traffic.{retrieval, where_so}
use Rattle.std.proofs.Common.{append-nil}
use Rattle.traffic_gen.specs.Lines.{command_line}
use Rattle.traffic_gen.proofs.passes.put_retrieval_where.Goals as goal

pub returns-then-so-clause-line : goal.returns-then-so-clause-line
returns-then-so-clause-line c =
    let command = retrieval c.args.number c.args.count c.args.store in
    let is = ap (λ (so : Bool). text_of (where_so so command)) c.if-so.true ∙ append-nil (command_line command) in
    subst (λ (text : List ℕ). Writes c.args.out.now c.put_retrieval.new.out c.args.at text) (sym is) c.put_retrieval.ensures.line
