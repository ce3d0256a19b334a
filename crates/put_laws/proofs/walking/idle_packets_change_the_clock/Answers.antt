use Rattle.put_laws.proofs.Ending.{idle_ends}
use Rattle.put_laws.proofs.walking.idle_packets_change_the_clock.Goals as goal

pub returns : goal.returns
returns c = idle_ends
