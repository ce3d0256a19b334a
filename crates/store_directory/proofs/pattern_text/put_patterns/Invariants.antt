use Rattle.std.proofs.Common.{[], ◌∷◌, length}
use Rattle.octet_fields.proofs.Rows.{Listed}
use Rattle.control_defs.specs.PatternOctets.{pattern_octets}
use Rattle.store_directory.proofs.pattern_text.put_patterns.Given as goal

abbrev pub invariant-loop-pattern : goal.invariant-loop-pattern
invariant-loop-pattern l = Listed (length l.patterns ∷ []) pattern_octets 5 l.patterns l.fn.out l.out l.at l.place l.pattern-index
