use Rattle.image_table.proofs.Standing.{held_beside, stands_beside}
use Rattle.image_table.proofs.laws.steps_beside_keep_the_table.Goals as goal

pub returns-clause-held : goal.returns-clause-held
returns-clause-held c = λ blocks root d at table flash these image enough within stands beside is.
    held_beside blocks root d at table flash stands these beside image enough within is

pub returns-clause-stands : goal.returns-clause-stands
returns-clause-stands c = λ blocks root d at table flash new these enough within stands beside kept pages.
    stands_beside blocks root d at table flash stands these beside new enough within kept pages
