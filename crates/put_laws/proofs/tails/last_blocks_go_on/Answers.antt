use Rattle.put_laws.proofs.LastBlocks.{begun_last, taken_last, told_last}
use Rattle.put_laws.proofs.tails.last_blocks_go_on.Goals as goal

pub returns-clause-told : goal.returns-clause-told
returns-clause-told c = told_last

pub returns-clause-taken : goal.returns-clause-taken
returns-clause-taken c = λ blocks image d table stored at changes before s store gone walk turn accepts spells.
    taken_last blocks image d table stored at changes before s store walk turn gone accepts spells

pub returns-clause-begun : goal.returns-clause-begun
returns-clause-begun c = λ blocks image d table stored at changes before s store gone link walk turn accepts spells.
    begun_last blocks image d table stored at changes before s store walk turn gone accepts link spells
