use Rattle.put_laws.proofs.LastBlocks.{places_beside}
use Rattle.put_laws.proofs.placing.places_stay_beside.Goals as goal

pub returns : goal.returns
returns c = λ blocks image other d table stored at place changes next s index walk pages same listed is.
    places_beside blocks image d table stored at place changes next s walk listed other pages same index is
