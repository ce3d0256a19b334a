use Rattle.std.proofs.Common.{refl}
use Rattle.octet_fields.proofs.Splices.{Writes-then}
use Rattle.control_defs.proofs.octets.put_fields.Goals as goal

pub returns : goal.returns
returns c = Writes-then (Writes-then (Writes-then c.put_u8.ensures c.put_u16.ensures refl) c.put_u8-2.ensures refl) c.put_u8-3.ensures refl
