use Rattle.std.proofs.Common.{◌≡◌, ℕ, List, [], take, drop, inl, inr, sym, ap, ◌∙◌, arith}
use Rattle.std.proofs.lemmas.List.{take-append-drop}
use Rattle.session_text.proofs.ReadFronts.{last_taken}
use Rattle.session_text.proofs.trim.trim_end.Goals as goal
use Rattle.session_text.proofs.trim.trim_end.Goals.{then-blanks-test+else-is_blank, else-blanks-test}

none_taken : (to : ℕ) (line : List ℕ) → to ≡ 0 → take to line ≡ []
none_taken to line is = ap (λ (n : ℕ). take n line) is

pub returns-clause-line : goal.returns-clause-line
returns-clause-line c = record {
  blanks = drop c.blanks.to c.args.line.now;
  split = sym (take-append-drop c.blanks.to c.args.line.now);
  all = c.blanks.invariant.all;
  last = elim c.blanks-test.branch [
    | then-blanks-test+else-is_blank w ↦ inr (last_taken c.args.line.now c.blanks.to w.blanks-test.true c.blanks.invariant.within (sym w.is_blank.ensures ∙ w.if-is_blank.false))
    | else-blanks-test w ↦ inl (none_taken c.blanks.to c.args.line.now (omega (arith, w.blanks-test.false)))
  ];
}
