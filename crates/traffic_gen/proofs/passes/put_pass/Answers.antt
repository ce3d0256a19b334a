use Rattle.std.proofs.Common.{ℕ, List, length, ap, subst, ◌∙◌}
use Rattle.octet_fields.specs.Fields.{Writes}
use Rattle.traffic_gen.proofs.Pieces.{five_writes}
use Rattle.traffic_gen.proofs.Texts.{text_of-pass}
use Rattle.traffic_gen.proofs.passes.put_pass.Goals as goal

pub returns-clause-end : goal.returns-clause-end
returns-clause-end c =
    let first = c.put_arrival-end.ensures in
    let second = c.put_where-end.ensures in
    let third = c.put_where-end-2.ensures in
    let fourth = c.put_retrieval_where-end.ensures in
    let fifth = c.put_retrieval_where.ensures in
    let all = five_writes first.line first.end second.line second.end third.line third.end fourth.line fourth.end fifth.line fifth.end in
    all.1 ∙ ap length (text_of-pass c.args.total c.args.number c.args.state c.time_of-moment.result c.time_of-moment.ensures.value)

pub returns-clause-lines : goal.returns-clause-lines
returns-clause-lines c =
    let first = c.put_arrival-end.ensures in
    let second = c.put_where-end.ensures in
    let third = c.put_where-end-2.ensures in
    let fourth = c.put_retrieval_where-end.ensures in
    let fifth = c.put_retrieval_where.ensures in
    let all = five_writes first.line first.end second.line second.end third.line third.end fourth.line fourth.end fifth.line fifth.end in
    subst (λ (text : List ℕ). Writes c.args.out.now c.put_retrieval_where.new.out 0 text)
    (text_of-pass c.args.total c.args.number c.args.state c.time_of-moment.result c.time_of-moment.ensures.value) all.0
