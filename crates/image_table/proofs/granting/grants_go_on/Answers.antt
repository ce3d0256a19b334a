use Rattle.image_table.proofs.Granted.{row_fits, table_goes, together_goes, view_goes}
use Rattle.image_table.proofs.granting.grants_go_on.Goals as goal

pub returns-clause-fits : goal.returns-clause-fits
returns-clause-fits c = λ blocks image d table pick row grants. row_fits blocks image table pick row d grants

pub returns-clause-table : goal.returns-clause-table
returns-clause-table c = λ blocks image d next table pick row number grants is. table_goes blocks image table pick row d next number grants is

pub returns-clause-shown : goal.returns-clause-shown
returns-clause-shown c = λ blocks image view after table pick row number grants renews shown.
    view_goes blocks image table pick row view after grants renews number shown

pub returns-clause-together : goal.returns-clause-together
returns-clause-together c = λ blocks image view after table pick row grants renews together.
    together_goes blocks image table pick row view after grants renews together
