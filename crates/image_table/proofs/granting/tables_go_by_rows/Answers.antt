use Rattle.image_table.proofs.ByRows.{held_by_rows, shown_by_rows}
use Rattle.image_table.proofs.granting.tables_go_by_rows.Goals as goal

pub returns-clause-held : goal.returns-clause-held
returns-clause-held c = held_by_rows

pub returns-clause-shown : goal.returns-clause-shown
returns-clause-shown c = shown_by_rows
