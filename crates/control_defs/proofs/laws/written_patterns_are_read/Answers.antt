use Rattle.control_defs.proofs.PatternOctets.{spelled_pattern-octets}
use Rattle.control_defs.proofs.laws.written_patterns_are_read.Goals as goal

pub returns : goal.returns
returns c = spelled_pattern-octets
