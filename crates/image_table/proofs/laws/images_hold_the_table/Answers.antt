use Rattle.image_table.proofs.Standing.{held_now}
use Rattle.image_table.proofs.laws.images_hold_the_table.Goals as goal

pub returns : goal.returns
returns c = λ blocks root d at table flash image enough within stands is.
    held_now blocks root d at table flash stands image enough within is
