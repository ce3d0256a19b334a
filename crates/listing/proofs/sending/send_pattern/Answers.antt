use Rattle.std.proofs.Common.{◌∷◌}
use Rattle.std.proofs.lemmas.Result.{on_err_weaker, on_ok_weaker}
use Rattle.std.specs.Bool.{⊤}
use Rattle.listing.proofs.Runs.{line_broke, line_sent}
use Rattle.pst_model.specs.Listing.{pattern_words, words_line}
use Rattle.listing.proofs.sending.send_pattern.Goals as goal

pub returns-clause-ok : goal.returns-clause-ok
returns-clause-ok g c =
    on_ok_weaker c.send_line.result
    (line_sent g.B.Board.means (λ _. ⊤) c.args.board.now c.send_line.new.board _ (λ _. words_line (c.args.name.now ∷ pattern_words c.args.pattern))
    (λ table here. c.write_pattern-size.ensures.front))
    c.send_line.ensures.ok

pub returns-clause-err : goal.returns-clause-err
returns-clause-err g c =
    on_err_weaker c.send_line.result
    (line_broke g.B.Board.means (λ _. ⊤) c.args.board.now c.send_line.new.board _ (λ _. words_line (c.args.name.now ∷ pattern_words c.args.pattern))
    (λ table here. c.write_pattern-size.ensures.front))
    c.send_line.ensures.err
