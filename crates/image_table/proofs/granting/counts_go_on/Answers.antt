use Rattle.image_table.proofs.Counts.{count_fits, count_goes, count_shown}
use Rattle.image_table.proofs.granting.counts_go_on.Goals as goal

pub returns-clause-fits : goal.returns-clause-fits
returns-clause-fits c = count_fits

pub returns-clause-table : goal.returns-clause-table
returns-clause-table c = count_goes

pub returns-clause-shown : goal.returns-clause-shown
returns-clause-shown c = count_shown
