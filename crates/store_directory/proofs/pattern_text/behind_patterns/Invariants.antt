use Rattle.store_directory.proofs.PatternTexts.{IsBehind}
use Rattle.store_directory.proofs.pattern_text.behind_patterns.Given as goal

abbrev pub invariant-loop-number : goal.invariant-loop-number
invariant-loop-number l = IsBehind l.count l._number l.octets l.rest
