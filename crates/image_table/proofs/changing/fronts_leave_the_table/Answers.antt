use Rattle.image_table.proofs.Puts.{front_put}
use Rattle.image_table.proofs.changing.fronts_leave_the_table.Goals as goal

pub returns : goal.returns
returns c = λ blocks image d next table row s gone changes found goes fits.
    front_put blocks image d next table row s gone changes found goes fits
