use Rattle.std.proofs.Common.{arith}
use Rattle.hex.specs.Hex.{lower_digits}
use Rattle.hex.proofs.HexLemmas.{length-encode_with}
use Rattle.octet_fields.proofs.Splices.{Writes-then}
use Rattle.listing.proofs.words.put_hex.Goals as goal

pub returns-clause-end : goal.returns-clause-end
returns-clause-end c = omega (arith, length-encode_with lower_digits c.args.octets.now)

pub returns-clause-writes : goal.returns-clause-writes
returns-clause-writes c = Writes-then c.put_u8.ensures c.put_digits.ensures (omega arith)
