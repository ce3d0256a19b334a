use Rattle.std.proofs.Common.{refl}
use Rattle.octet_fields.proofs.Splices.{Writes-then}
use Rattle.store_directory.proofs.row_text.put_records.Goals as goal

pub returns : goal.returns
returns c = Writes-then (Writes-then (Writes-then (Writes-then c.put_u32.ensures c.put_u32-2.ensures refl) c.put_u32-3.ensures refl) c.put_u32-4.ensures refl) c.put_u32-5.ensures refl
