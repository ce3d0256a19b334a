use Rattle.std.proofs.Common.{[], ◌∷◌, length}
use Rattle.octet_fields.proofs.Rows.{Listed}
use Rattle.pus_report.proofs.rows.put_rows.Given as goal

abbrev pub invariant-loop-row : goal.invariant-loop-row
invariant-loop-row g l = Listed (length l.rows ∷ []) g.R.Row.octets g.R.Row.SIZE l.rows l.fn.out l.out l.at l.place l.row-index
