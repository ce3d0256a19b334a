use Rattle.put_laws.proofs.PlacesOn.{clock_places, clock_stores, walk_now}
use Rattle.put_laws.proofs.placing.times_are_those_of_the_packet.Goals as goal

pub returns-clause-now : goal.returns-clause-now
returns-clause-now c = walk_now

pub returns-clause-stores : goal.returns-clause-stores
returns-clause-stores c = clock_stores

pub returns-clause-places : goal.returns-clause-places
returns-clause-places c = clock_places
