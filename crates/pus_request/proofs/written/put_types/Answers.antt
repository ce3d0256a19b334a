use Rattle.std.proofs.Common.{refl}
use Rattle.octet_fields.proofs.Splices.{Writes-then}
use Rattle.pus_request.proofs.written.put_types.Goals as goal

pub returns-clause-item : goal.returns-clause-item
returns-clause-item c = Writes-then c.put_u16.ensures c.put_pattern.ensures.written refl
