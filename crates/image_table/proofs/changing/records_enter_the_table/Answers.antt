use Rattle.image_table.proofs.Puts.{more_put}
use Rattle.image_table.proofs.changing.records_enter_the_table.Goals as goal

pub returns : goal.returns
returns c = λ blocks image d next table row s gone link links meaning changes found same goes spelled is fits.
    more_put blocks image d next table row s gone changes found link links same goes meaning spelled is fits
