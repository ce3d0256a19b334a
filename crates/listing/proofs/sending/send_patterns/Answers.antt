use Rattle.std.proofs.Common.{ℕ, ◌+◌, List, ◌∷◌, length, take, refl, sym, ap, subst, ◌∙◌, arith}
use Rattle.std.proofs.lemmas.List.{take_all}
use Rattle.std.specs.Bool.{⊤}
use Rattle.std.specs.List.{flat_map}
use Rattle.control_defs.specs.declared.patterns.Pattern.{Pattern}
use Rattle.control_defs.specs.declared.patterns.Pattern.TheVariants.{Every}
use Rattle.listing.proofs.Ones.{flat-get, front-take}
use Rattle.listing.proofs.Runs.{breaks_on, breaks_within, lists_as, lists_none, lists_on}
use Rattle.board.specs.Moments.{IsPrefixOf}
use Rattle.octet_fields.proofs.Results.{on_err}
use Rattle.pst_model.specs.Listing.{pattern_words, words_line}
use Rattle.listing.proofs.sending.send_patterns.Goals as goal

pub loop-pattern-init : goal.loop-pattern-init
loop-pattern-init g c =
    let old = c.args.board.now in
    record {
      lists = lists_none g.B.Board.means (λ _. ⊤) old (λ image told left. g.met.B.Board.images_now old image told left);
      same = refl;
    }

pub returns-in_err-send_pattern-clause-err : goal.returns-in_err-send_pattern-clause-err
returns-in_err-send_pattern-clause-err g c =
    let means = g.B.Board.means in
    let f = λ (pattern : Pattern). words_line (c.args.name.now ∷ pattern_words pattern) in
    let patterns = c.args.patterns.now in
    let at = c.loop-pattern.pattern-index in
    let more = flat-get f patterns at Every (omega arith) in
    let all = take_all (length patterns) patterns (omega arith) in
    on_err c.from_residual.result
    (breaks_within means (λ _. ⊤) (λ _. ⊤) (λ table here. here) c.args.board.now c.send_pattern.new.board _ _
    (λ table here. subst (λ (l : List ℕ). IsPrefixOf l (flat_map f patterns)) more
    (subst (λ (l : List Pattern). IsPrefixOf (flat_map f (take (at + 1) patterns)) (flat_map f l)) all (front-take f patterns (at + 1) (length patterns) (omega arith))))
    (omega arith) (omega arith)
    (breaks_on means (λ _. ⊤) (λ _. ⊤) (λ table here. here) c.args.board.now c.loop-pattern.board c.send_pattern.new.board _ _
    c.loop-pattern.invariant.lists c.in_err-send_pattern.ensures.err))

pub loop-pattern-preserved : goal.loop-pattern-preserved
loop-pattern-preserved g c =
    let means = g.B.Board.means in
    let f = λ (pattern : Pattern). words_line (c.args.name.now ∷ pattern_words pattern) in
    let patterns = c.args.patterns.now in
    let at = c.loop-pattern.pattern-index in
    let more = flat-get f patterns at Every (omega arith) in
    record {
      lists =
          lists_as means (λ _. ⊤) (λ _. ⊤) (λ table here. here) c.args.board.now c.send_pattern.new.board _ _
          (λ table here. sym more) (omega arith) refl
          (lists_on means (λ _. ⊤) (λ _. ⊤) (λ table here. here) c.args.board.now c.loop-pattern.board c.send_pattern.new.board _ _
          c.loop-pattern.invariant.lists c.in_ok-send_pattern.ensures.ok);
      same = c.send_pattern.ensures.same ∙ c.loop-pattern.invariant.same;
    }

pub returns-clause-ok : goal.returns-clause-ok
returns-clause-ok g c =
    let f = λ (pattern : Pattern). words_line (c.args.name.now ∷ pattern_words pattern) in
    let patterns = c.args.patterns.now in
    let at = c.loop-pattern.pattern-index in
    lists_as g.B.Board.means (λ _. ⊤) (λ _. ⊤) (λ table here. here) c.args.board.now c.loop-pattern.board _ _
    (λ table here. ap (flat_map f) (take_all at patterns (omega arith))) (omega arith) (omega arith) c.loop-pattern.invariant.lists
