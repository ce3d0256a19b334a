use Rattle.std.proofs.Common.{refl}
use Rattle.octet_fields.proofs.Splices.{Writes-then}
use Rattle.store_directory.proofs.row_text.put_store.Goals as goal

pub returns : goal.returns
returns c = Writes-then (Writes-then (Writes-then (Writes-then c.put_u16.ensures c.put_u8.ensures refl) c.put_u32.ensures refl) c.put_u8-2.ensures refl) c.put_u8-3.ensures refl
