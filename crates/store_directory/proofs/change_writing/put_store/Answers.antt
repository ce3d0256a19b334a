use Rattle.std.proofs.Common.{refl}
use Rattle.octet_fields.proofs.Splices.{Writes-then}
use Rattle.store_directory.proofs.change_writing.put_store.Goals as goal

pub returns-clause-written : goal.returns-clause-written
returns-clause-written c = Writes-then c.put_u8.ensures c.put_u16.ensures refl
