use Rattle.std.proofs.Common.{arith, refl}
use Rattle.octet_fields.proofs.Splices.{Writes-front}
use Rattle.byteorder.specs.Endian.{big_bytes}
use Rattle.octet_fields.proofs.put_u64.Goals as goal

pub returns : goal.returns
returns c = Writes-front _ 8 _ (big_bytes 8 c.args.number) _ (omega arith) refl c.write_u64.ensures
