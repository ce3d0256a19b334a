use Rattle.vault.proofs.Stopped.{image_holds}
use Rattle.vault.proofs.laws.images_hold_the_table.Goals as goal

pub returns : goal.returns
returns c = image_holds
