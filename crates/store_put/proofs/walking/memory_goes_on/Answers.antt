use Rattle.store_put.proofs.Walked.{walking_begins_block, walking_stays, walking_takes, walking_tells}
use Rattle.store_put.proofs.walking.memory_goes_on.Goals as goal

pub returns : goal.returns
returns c = record { stays = walking_stays; tells = walking_tells; takes = walking_takes; begins = walking_begins_block }
