use Rattle.put_laws.proofs.LastBlocks.{used_beside}
use Rattle.put_laws.proofs.tails.last_blocks_stay_beside.Goals as goal

pub returns : goal.returns
returns c = λ blocks image other d table stored at place changes next s walk pages same listed.
    used_beside blocks image d table stored at place changes next s walk listed other pages same
