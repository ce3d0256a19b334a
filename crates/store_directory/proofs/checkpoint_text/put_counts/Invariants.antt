use Rattle.std.proofs.Common.{[]}
use Rattle.octet_fields.specs.Fields.{big_bytes}
use Rattle.octet_fields.proofs.Rows.{Listed}
use Rattle.store_directory.proofs.checkpoint_text.put_counts.Given as goal

abbrev pub invariant-loop-count : goal.invariant-loop-count
invariant-loop-count l = Listed [] (big_bytes 4) 4 l.counts l.fn.out l.out l.at l.place l.count-index
