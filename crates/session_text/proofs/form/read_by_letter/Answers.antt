use Rattle.std.proofs.lemmas.Result.{err_from_is_err_and}
use Rattle.pst_model.specs.Command.{Arrival, Request}
use Rattle.session_text.proofs.form.read_by_letter.Goals as goal

pub returns-in_err-moment-in-65-clause-reading : goal.returns-in_err-moment-in-65-clause-reading
returns-in_err-moment-in-65-clause-reading c =
    let p = err_from_is_err_and c.from_residual.result c.from_residual.ensures.1 in rw (c.in-65.is, p.1, p.2) (c.in_err-moment-in-65.ensures.reading Arrival)

pub returns-in_ok-moment-in-65-clause-reading : goal.returns-in_ok-moment-in-65-clause-reading
returns-in_ok-moment-in-65-clause-reading c = rw c.in-65.is (c.in_ok-moment-in-65.ensures.reading Arrival)

pub returns-in_err-moment-in-82-clause-reading : goal.returns-in_err-moment-in-82-clause-reading
returns-in_err-moment-in-82-clause-reading c =
    let p = err_from_is_err_and c.from_residual-in_err-moment-in-82.result c.from_residual-in_err-moment-in-82.ensures.1 in
    rw (c.in-82.is, p.1, p.2) (c.in_err-moment-in-82.ensures.reading Request)

pub returns-in_ok-moment-in-82-clause-reading : goal.returns-in_ok-moment-in-82-clause-reading
returns-in_ok-moment-in-82-clause-reading c = rw c.in-82.is (c.in_ok-moment-in-82.ensures.reading Request)
