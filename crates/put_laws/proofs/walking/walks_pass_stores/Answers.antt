use Rattle.put_laws.proofs.Staying.{passed_by, told_already}
use Rattle.put_laws.proofs.walking.walks_pass_stores.Goals as goal

pub returns-clause-unoffered : goal.returns-clause-unoffered
returns-clause-unoffered c = λ blocks image d table stored at changes before s store walk turn is.
    passed_by blocks image d table stored at changes before s store walk turn is

pub returns-clause-told : goal.returns-clause-told
returns-clause-told c = λ blocks image d table stored at changes before s store walk turn refuses told.
    told_already blocks image d table stored at changes before s store walk turn refuses told
