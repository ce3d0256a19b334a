use Rattle.octet_fields.proofs.Rows.{Listed-more}
use Rattle.control_defs.specs.PatternOctets.{pattern_octets}
use Rattle.control_defs.proofs.PatternOctets.{length-pattern_octets}
use Rattle.store_directory.proofs.pattern_text.put_patterns.Goals as goal

pub loop-pattern-preserved : goal.loop-pattern-preserved
loop-pattern-preserved c =
    Listed-more pattern_octets 5 length-pattern_octets c.args.patterns.now _ c.loop-pattern-test.true c.loop-pattern.invariant
    c.put_pattern-place.ensures.written c.put_pattern-place.ensures.place
