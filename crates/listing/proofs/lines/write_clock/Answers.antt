use Rattle.std.proofs.Common.{ℕ, ◌∷◌, [], codes, sym, ◌∙◌, subst}
use Rattle.std.specs.Fmt.{decimal}
use Rattle.listing.specs.Words.{HoldsLine}
use Rattle.listing.proofs.Spaced.{and_then, line_written}
use Rattle.pst_model.specs.Listing.{time_word, words_line}
use Rattle.listing.proofs.lines.write_clock.Goals as goal

pub returns-clause-line : goal.returns-clause-line
returns-clause-line c table now reports =
    let time = c.put_time-end.ensures in
    let words = c.put_words-end.ensures in
    let line = line_written (codes "now") (time_word c.args.now ∷ codes "reports" ∷ decimal c.from.result ∷ []) c.as_bytes.ensures.value
    c.put_text-end.ensures.writes c.put_text-end.ensures.end (and_then time.writes time.end words.writes words.end)
    c.end_line.ensures.writes c.end_line.ensures.end in
    subst (λ (n : ℕ). HoldsLine c.args.out.now c.end_line.new.out c.end_line.result (words_line (codes "now" ∷ time_word n ∷ codes "reports" ∷ decimal table.reports ∷ []))) (sym now)
    (subst (λ (n : ℕ). HoldsLine c.args.out.now c.end_line.new.out c.end_line.result (words_line (codes "now" ∷ time_word c.args.now ∷ codes "reports" ∷ decimal n ∷ [])))
    (c.from.ensures ∙ sym reports) line)
