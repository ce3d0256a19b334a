use Rattle.put_laws.proofs.Telling.{tells}
use Rattle.put_laws.proofs.walking.walks_tell_refusals.Goals as goal

pub returns : goal.returns
returns c = tells
