use Rattle.std.proofs.Common.{◌≡◌, Ok, Err, ◌∙◌, sym, ap, subst}
use Rattle.std.specs.Prelude.{MatchResult}
use Rattle.pst_model.specs.Fields.{fields_of}
use Rattle.pst_model.specs.Forms.{Reading, reading_in}
use Rattle.session_text.specs.Fronts.{front_reading}
use Rattle.session_text.specs.Read.{said_in}
use Rattle.session_text.proofs.ReadFronts.{line_says}
use Rattle.session_text.proofs.form.read_form.Goals as goal

pub returns-clause-reading : goal.returns-clause-reading
returns-clause-reading c =
    let end = c.trim_end.ensures.line in
    let says = ap (λ l. reading_in (fields_of l)) (sym c.without_return.ensures.line) ∙ line_says c.without_return.result.now c.trim_end.result.now end.blanks end.split end.all end.last ∙ ap front_reading (sym c.trim_front.ensures.line) in
    subst (λ (r : Reading). MatchResult c.read_front.result (λ said. r ≡ Ok (said_in c.read_front.new.packet said)) (λ why. r ≡ Err why)) (sym says) c.read_front.ensures.reading
