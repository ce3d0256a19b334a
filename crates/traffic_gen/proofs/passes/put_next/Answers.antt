use Rattle.std.proofs.Common.{List, length, ap, subst, sym, ◌∙◌, arith}
use Rattle.octet_fields.specs.Fields.{Writes}
use Rattle.pst_model.specs.Command.{Command}
use Rattle.traffic_gen.specs.Lines.{text_of}
use Rattle.traffic_gen.proofs.Behind.{next_of-pass}
use Rattle.traffic_gen.proofs.LineLengths.{length-timed_line}
use Rattle.traffic_gen.proofs.passes.put_next.Goals as goal

pub returns-then-made-total-clause-end : goal.returns-then-made-total-clause-end
returns-then-made-total-clause-end c =
    c.put_pass.ensures.end
    ∙ ap (λ (commands : List Command). length (text_of commands)) (sym (next_of-pass c.args.total c.args.state c.args.made c.if-made-eq0.false c.if-made-total.true))

pub returns-then-made-total-clause-lines : goal.returns-then-made-total-clause-lines
returns-then-made-total-clause-lines c =
    subst (λ (commands : List Command). Writes c.args.out.now c.put_pass.new.out 0 (text_of commands))
    (sym (next_of-pass c.args.total c.args.state c.args.made c.if-made-eq0.false c.if-made-total.true)) c.put_pass.ensures.lines

pub returns-then-made-total-2-clause-few : goal.returns-then-made-total-2-clause-few
returns-then-made-total-2-clause-few c = omega (arith, length-timed_line 71 c.time_of.result, c.put_timed.ensures.end)
