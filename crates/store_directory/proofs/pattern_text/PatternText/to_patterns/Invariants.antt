use Rattle.std.proofs.Common.{◌≡◌, take}
use Rattle.control_defs.specs.Lists.{IsPatternList}
use Rattle.store_directory.proofs.pattern_text.PatternText.to_patterns.Given as goal

abbrev pub invariant-loop-number : goal.invariant-loop-number
invariant-loop-number l = record {
  same : l.patterns ≡ take l.number l.self;
  lawful : IsPatternList l.patterns;
}
