use Rattle.std.proofs.Common.{arith}
use Rattle.octet_fields.proofs.Splices.{Writes-then}
use Rattle.listing.proofs.words.put_spaced.Goals as goal

pub returns-clause-writes : goal.returns-clause-writes
returns-clause-writes c = Writes-then c.put_u8.ensures c.put_text.ensures.writes (omega arith)
