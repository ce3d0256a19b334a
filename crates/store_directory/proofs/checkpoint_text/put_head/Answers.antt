use Rattle.std.proofs.Common.{refl}
use Rattle.octet_fields.proofs.Splices.{Writes-then}
use Rattle.store_directory.proofs.checkpoint_text.put_head.Goals as goal

pub returns-clause-written : goal.returns-clause-written
returns-clause-written c = Writes-then c.put_u48.ensures c.put_u16.ensures refl
