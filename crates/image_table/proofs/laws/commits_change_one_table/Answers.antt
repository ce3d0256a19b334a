use Rattle.image_table.proofs.Standing.{held_either}
use Rattle.image_table.proofs.laws.commits_change_one_table.Goals as goal

pub returns : goal.returns
returns c = λ blocks root d next at table after flash these image stands off loads either.
    held_either blocks root d at table flash stands next after these image off loads either
