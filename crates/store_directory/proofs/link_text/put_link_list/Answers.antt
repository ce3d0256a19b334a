use Rattle.std.proofs.Common.{refl}
use Rattle.octet_fields.proofs.Splices.{Writes-then}
use Rattle.store_directory.proofs.link_text.put_link_list.Goals as goal

pub returns-clause-written : goal.returns-clause-written
returns-clause-written c = Writes-then c.put_u16.ensures c.put_links.ensures.written refl
