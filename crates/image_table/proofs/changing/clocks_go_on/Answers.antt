use Rattle.image_table.proofs.Puts.{clock_goes}
use Rattle.image_table.proofs.changing.clocks_go_on.Goals as goal

pub returns : goal.returns
returns c = clock_goes
