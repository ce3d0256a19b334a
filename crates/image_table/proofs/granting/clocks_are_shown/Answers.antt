use Rattle.image_table.proofs.Counts.{clock_fits, clock_shown, clock_together}
use Rattle.image_table.proofs.granting.clocks_are_shown.Goals as goal

pub returns-clause-fits : goal.returns-clause-fits
returns-clause-fits c = clock_fits

pub returns-clause-shown : goal.returns-clause-shown
returns-clause-shown c = λ view after table now reports renews shown. clock_shown view after now reports renews table shown

pub returns-clause-together : goal.returns-clause-together
returns-clause-together c = clock_together
