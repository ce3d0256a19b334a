use Rattle.std.proofs.Common.{refl}
use Rattle.octet_fields.proofs.Splices.{Writes-then}
use Rattle.store_directory.proofs.link_text.put_link.Goals as goal

pub returns : goal.returns
returns c = Writes-then c.put_u16.ensures c.put_u32.ensures refl
