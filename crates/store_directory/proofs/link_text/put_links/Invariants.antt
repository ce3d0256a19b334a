use Rattle.std.proofs.Common.{[]}
use Rattle.octet_fields.proofs.Rows.{Listed}
use Rattle.store_directory.specs.Entries.{link_octets}
use Rattle.store_directory.proofs.link_text.put_links.Given as goal

abbrev pub invariant-loop-link : goal.invariant-loop-link
invariant-loop-link l = Listed [] link_octets 6 l.links l.fn.out l.out l.at l.place l.link-index
