use Rattle.store_put.proofs.Walked.{walking_begins}
use Rattle.store_put.proofs.walking.memory_begins_a_walk.Goals as goal

pub returns : goal.returns
returns c = walking_begins
