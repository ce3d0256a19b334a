use Rattle.std.proofs.Common.{◌∙◌, arith, rules}
use Rattle.std.proofs.lemmas.Result.{err_from_is_err_and}
use Rattle.session_text.proofs.ReadFronts.{front_there}
use Rattle.session_text.proofs.form.read_front.Goals as goal

pub returns-in_err-form-clause-reading : goal.returns-in_err-form-clause-reading
returns-in_err-form-clause-reading c =
    let p = err_from_is_err_and c.from_residual.result c.from_residual.ensures.1 in
    rw (p.1, p.2) (front_there c.args.line.now c.trim_front.result.now (omega arith) c.if-line-eq35.false (search rules) c.trim_front.ensures.line ∙ c.in_err-form.ensures.reading)

pub returns-clause-reading : goal.returns-clause-reading
returns-clause-reading c = front_there c.args.line.now c.trim_front.result.now (omega arith) c.if-line-eq35.false (search rules) c.trim_front.ensures.line ∙ c.in_ok-form.ensures.reading
