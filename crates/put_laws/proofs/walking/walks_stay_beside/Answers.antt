use Rattle.put_laws.proofs.Ending.{beside}
use Rattle.put_laws.proofs.walking.walks_stay_beside.Goals as goal

pub returns : goal.returns
returns c = λ blocks image other d table stored at changes next walk pages same.
    beside blocks image d table stored at changes next walk other pages same
