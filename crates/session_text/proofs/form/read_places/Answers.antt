use Rattle.std.proofs.Common.{◌∙◌, sym, ap, arith, rules}
use Rattle.std.proofs.lemmas.Result.{err_from_is_err_and}
use Rattle.pst_model.specs.Forms.{command_by}
use Rattle.session_text.proofs.ReadFronts.{places_there}
use Rattle.session_text.proofs.form.read_places.Goals as goal

pub returns-in_err-length-clause-reading : goal.returns-in_err-length-clause-reading
returns-in_err-length-clause-reading c =
    let p = err_from_is_err_and c.from_residual.result c.from_residual.ensures.1 in
    rw (p.1, p.2) (λ make. places_there make c.args.rest.now c.trim_front.result.now c.in-Some.moment (omega arith) (search rules) (sym c.in-Some.ensures.value) c.trim_front.ensures.line ∙ ap (command_by make c.in-Some.moment) c.in_err-length.ensures.reading)

pub returns-clause-reading : goal.returns-clause-reading
returns-clause-reading c = λ make. places_there make c.args.rest.now c.trim_front.result.now c.in-Some.moment (omega arith) (search rules) (sym c.in-Some.ensures.value) c.trim_front.ensures.line ∙ ap (command_by make c.in-Some.moment) c.in_ok-length.ensures.reading
