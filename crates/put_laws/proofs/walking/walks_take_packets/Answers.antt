use Rattle.put_laws.proofs.Taking.{takes}
use Rattle.put_laws.proofs.walking.walks_take_packets.Goals as goal

pub returns : goal.returns
returns c = λ blocks image d table stored at changes before s store gone walk turn accepts spells.
    takes blocks image d table stored at changes before s store walk turn gone accepts spells
